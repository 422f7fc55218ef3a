pub mod Pieces
pub mod RunEnds
pub mod RulesEnds
pub mod WhatifLaws
