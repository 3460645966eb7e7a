-- What a power cut leaves: the theorem, over lists too, and the laws it is proved with.
pub mod Laws
pub mod PowerCut
pub mod Lists
