pub mod Operands
pub mod Small
pub mod Formed
pub mod Fitting
