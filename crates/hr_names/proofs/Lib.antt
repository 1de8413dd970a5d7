pub mod NamesListed
