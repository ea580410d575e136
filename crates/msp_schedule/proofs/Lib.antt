pub mod judging
