use Rattle.std.proofs.Common.{◌≡◌, ◌<◌, length, sym, subst, true, false}
use Rattle.std.specs.Prelude.{slice_index_or}
use Rattle.kill_spec.specs.Victims.{action_patterns}
use Rattle.detectors.proofs.Finding.{has_match_of}
use Rattle.victim_rank.specs.Scopes.{ScopeView, is_in_view}
use Rattle.victim_rank.proofs.scope.Scope.has.Goals as goal

-- The table says whether the patterns match the group.
pub returns-in-None : goal.returns-in-None
returns-in-None c =
    let s = c.self.inside in
    let group = c.args.group.now in
    let there : group.populated ≡ true = c.if-not-group.false in
    let inside : group.slot.0 < length s.lives.now = subst (λ (v : ScopeView). group.slot.0 < length v.lives) (sym c.self.view_is) c.requires in
    subst (λ (v : ScopeView). slice_index_or s.matched.now group.slot.0 false ≡ is_in_view v group) c.self.view_is
    (rw (c.in-None.is, there, c.self.invariant) (has_match_of s.lives.now (action_patterns s.action.now) group inside))
