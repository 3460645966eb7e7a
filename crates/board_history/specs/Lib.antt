pub mod PowerCut
