pub mod Kits
