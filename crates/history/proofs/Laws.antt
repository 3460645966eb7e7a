-- What the power-cut theorem is proved with. Nobody has to believe these: they are checked. From below: bits become bytes
-- and addresses; the chip's stage is an image of the bytes; a rise of SCK takes the image on; the history goes on act by
-- act; the select follows it; so does every event; so does every list of events.
pub mod Bytes
pub mod Edges
pub mod Addresses
pub mod Stage
pub mod Touch
pub mod Rise
pub mod Place
pub mod Select
pub mod Step
pub mod Moments
pub mod Worn
