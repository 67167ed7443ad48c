pub mod Heap
pub mod Sifting
