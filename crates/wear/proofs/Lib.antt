-- What the counting call's promise comes to.
pub mod CountLaws
