pub mod Cut
pub mod View
pub mod Reading
pub mod Parse
pub mod Pieces
pub mod Laws
