pub mod Grammar
pub mod Expressions
pub mod Params
pub mod Atom
pub mod Items
pub mod Entry
