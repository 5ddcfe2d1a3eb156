mod FlowLaws
mod TankLaws
mod UnitLaws
mod ChargeLaws
mod HoldLaws
