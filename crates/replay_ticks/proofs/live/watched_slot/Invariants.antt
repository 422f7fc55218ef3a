use Rattle.std.proofs.Common.{◌≡◌, drop}
use Rattle.run_laws.specs.Live.{live_slot}
use Rattle.replay_ticks.proofs.live.watched_slot.Given as goal

abbrev pub invariant-lives : goal.invariant-lives
invariant-lives l = live_slot 0 l.lives l.path l.at ≡ live_slot l.slot (drop l.slot l.lives) l.path l.at
