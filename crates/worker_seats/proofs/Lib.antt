mod Beginnings
mod Histories
