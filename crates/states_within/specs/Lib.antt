-- The states within the bound.
pub mod Within
