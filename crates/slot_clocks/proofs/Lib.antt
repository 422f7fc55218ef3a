mod ChainLaws
mod CountsTable
mod AccountLaws
mod StartLaws
mod TurnLaws
mod WalkLaws
