use Rattle.world_tests.proofs.observers.added.assert_list_after_list.Given as goal

abbrev pub ghosts-ordered : goal.ghosts-ordered
ghosts-ordered g a = record { name = a.blank.name; parts = a.blank.parts }
