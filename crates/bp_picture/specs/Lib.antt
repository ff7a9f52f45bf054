-- What a user must believe: the picture of a placement, its text, the fills, and where names stand.
pub mod Fills
pub mod Labels
pub mod Outlines
pub mod PictureText
pub mod Pictures
