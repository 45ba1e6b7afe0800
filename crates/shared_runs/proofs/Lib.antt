pub mod Joining
mod LineList
mod PieceLines
