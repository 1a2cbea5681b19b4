-- The laws of what the functions say, which documents name.
pub mod StatusLaws
pub mod ValueLaws
pub mod PieceLaws
