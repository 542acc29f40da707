pub mod Forecasts
pub mod Requests
