mod PlaceLemmas
mod LookLemmas
mod MatrixLemmas
