mod instances
mod schedules
mod OneWay
