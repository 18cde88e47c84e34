pub mod Value
pub mod AttributeList
