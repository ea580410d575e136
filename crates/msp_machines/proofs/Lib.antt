pub mod BroughtBySpeeds
