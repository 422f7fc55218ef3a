use Rattle.world_tests.proofs.observers.added.assert_both_added.Given as goal

abbrev pub ghosts-add_both : goal.ghosts-add_both
ghosts-add_both g a = record { name = a.blank.name; parts = a.blank.parts }
