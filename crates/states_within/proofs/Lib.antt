-- Laws of the states within the bound.
pub mod Within
pub mod Placed
