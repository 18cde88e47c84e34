pub mod Export
pub mod Laws
