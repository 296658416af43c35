pub mod Numbers
pub mod Amounts
pub mod Lists
pub mod Laws
pub mod Rows
pub mod SameTables
pub mod SameKinds
