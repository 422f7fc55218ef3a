use Rattle.observe_core.proofs.request.write_observed.Given as goal

abbrev pub ghosts-observe_trace : goal.ghosts-observe_trace
ghosts-observe_trace g a = record { name = a.blank.name; parts = a.blank.parts }
