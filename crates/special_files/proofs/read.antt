pub mod ReadLeaves
