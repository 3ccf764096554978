pub mod TokensOf
