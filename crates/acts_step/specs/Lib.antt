pub mod Printed
pub mod Steps
pub mod Advances
pub mod Texts
