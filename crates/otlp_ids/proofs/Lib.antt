pub mod Drawing
pub mod HexText
