mod Pieces
mod Listing
mod LastNamed
