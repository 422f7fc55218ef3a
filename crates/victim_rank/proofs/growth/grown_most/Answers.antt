use Rattle.std.proofs.Common.{◌≡◌, ◌+◌, ◌∷◌, ◌∙◌, ◌<◌, ap, drop, get_or, length, refl, subst, sym, true, false}
use Rattle.std.specs.Prelude.{Bool, None, Some, filter, nat_lt}
use Rattle.std.proofs.lemmas.List.{drop_all, drop_more}
use Rattle.kill_spec.specs.Victims.{is_larger}
use Rattle.kill_spec.proofs.Foremost.{foremost}
use Rattle.detectors.specs.Inner.{group_at, groups_at}
use Rattle.victim_rank.specs.Growth.{is_growing_over, sizes_from}
use Rattle.victim_rank.specs.Grown.{IsGrown, IsGrownAt}
use Rattle.victim_rank.specs.Scopes.{is_in_rank}
use Rattle.victim_rank.proofs.Growing.{best_group, choosable_all, growing_as, is_choosable, leads_over}
use Rattle.victim_rank.proofs.Growing.{left_first, left_second, left_third, next_left, next_taken, next_trails}
use Rattle.victim_rank.proofs.Growing.{same_choosable, walked_growth}
use Rattle.victim_rank.proofs.Scoped.{same_in_rank}
use Rattle.victim_rank.proofs.growth.grown_most.Goals as goal
use Rattle.victim_rank.proofs.growth.grown_most.Goals.{then-is_growing+then-leads_any+then-is_among_largest, else-is_growing}
use Rattle.victim_rank.proofs.growth.grown_most.Goals.{else-is_growing-via-then-is_growing+then-leads_any+else-is_among_largest}
use Rattle.victim_rank.proofs.growth.grown_most.Goals.{else-is_growing-via-then-is_growing+else-leads_any, else-is_growing-via-else-is_growing}

pub returns-in-Some : goal.returns-in-Some
returns-in-Some c =
    let scope = c.args.scope.now in
    let groups = c.args.reading.now.seen.groups in
    let sizes = sizes_from c.args.past.now in
    let ranked = is_in_rank scope c.args.best_rank in
    let places = c.places-places in
    let rest = rw (
      drop_all c.groups.place-index places.result.now c.groups-test.false,
      c.in-Some.is,
    ) at c.groups.invariant.rest in
    rw c.group.ensures.group (walked_growth scope.lives sizes c.args.ratio c.args.few ranked groups
    (rw c.requires.used.lives at places.ensures.read.order) (Some (group_at groups c.in-Some.best.place))
    (rest ∙ ap (foremost (leads_over sizes) None)
    (same_choosable sizes scope.lives c.args.ratio c.args.few ranked (groups_at groups places.result.now) groups
    (same_in_rank scope c.args.best_rank (groups_at groups places.result.now) groups places.ensures.groups))))

pub returns-in-None : goal.returns-in-None
returns-in-None c =
    let scope = c.args.scope.now in
    let groups = c.args.reading.now.seen.groups in
    let sizes = sizes_from c.args.past.now in
    let ranked = is_in_rank scope c.args.best_rank in
    let places = c.places-places in
    let rest = rw (
      drop_all c.groups.place-index places.result.now c.groups-test.false,
      c.in-None.is,
    ) at c.groups.invariant.rest in
    walked_growth scope.lives sizes c.args.ratio c.args.few ranked groups
    (rw c.requires.used.lives at places.ensures.read.order) None
    (rest ∙ ap (foremost (leads_over sizes) None)
    (same_choosable sizes scope.lives c.args.ratio c.args.few ranked (groups_at groups places.result.now) groups
    (same_in_rank scope c.args.best_rank (groups_at groups places.result.now) groups places.ensures.groups)))

-- The places of a scope include all groups of a preference rank.
pub is_among_largest-requires-clause-ranking : goal.is_among_largest-requires-clause-ranking
is_among_largest-requires-clause-ranking c =
    let scope = c.args.scope.now in
    let groups = c.args.reading.now.seen.groups in
    let places = c.places-places in
    record {
      lives = c.requires.used.lives;
      read = places.ensures.read;
      few = places.ensures.all;
      within = places.ensures.within;
      groups = same_in_rank scope c.args.best_rank (groups_at groups places.result.now) groups
          places.ensures.groups;
    }

-- A group of another preference rank can't be chosen.
pub groups-preserved-then-not-is_in_rank : goal.groups-preserved-then-not-is_in_rank
groups-preserved-then-not-is_in_rank c =
    let scope = c.args.scope.now in
    let groups = c.args.reading.now.seen.groups in
    let sizes = sizes_from c.args.past.now in
    let ranked = is_in_rank scope c.args.best_rank in
    let items = c.places-places.result.now in
    let i = c.groups.place-index in
    let group = group_at groups (get_or items i 0) in
    let among : Bool = nat_lt (length (filter (λ other. is_larger scope.lives other group) (filter ranked groups))) c.args.few in
    let growing : Bool = is_growing_over sizes c.args.ratio group in
    let choosable = is_choosable sizes scope.lives c.args.ratio c.args.few ranked groups in
    let rest = groups_at groups (drop (i + 1) items) in
    let now : groups_at groups (drop i items) ≡ group ∷ rest =
    rw (drop_more items i 0 c.groups-test.true) refl in
    let before : foremost (leads_over sizes) (best_group groups c.groups.best) (filter choosable (group ∷ rest))
    ≡ foremost (leads_over sizes) None (filter choosable (groups_at groups items)) =
    rw now at c.groups.invariant.rest in
    let left : choosable group ≡ false = left_first (ranked group) among growing
    (ap ranked (sym c.group-group.ensures.group) ∙ sym c.is_in_rank.ensures ∙ c.if-not-is_in_rank.true) in
    record {
      grown = c.groups.invariant.grown;
      known = c.groups.invariant.known;
      rest = next_left sizes choosable (best_group groups c.groups.best) group rest left ∙ before;
    }

pub groups-preserved : goal.groups-preserved
groups-preserved c =
    let scope = c.args.scope.now in
    let groups = c.args.reading.now.seen.groups in
    let sizes = sizes_from c.args.past.now in
    let ranked = is_in_rank scope c.args.best_rank in
    let items = c.places-places.result.now in
    let i = c.groups.place-index in
    let place = get_or items i 0 in
    let group = group_at groups place in
    let next = c.growth_of-next.result in
    let here : c.group-group.result.now ≡ group = c.group-group.ensures.group in
    let is : IsGrown sizes next group = rw here at c.growth_of-next.ensures.grown in
    let there : next.place ≡ place = c.growth_of-next.ensures.place in
    let at : IsGrownAt sizes groups next = record {
      within = subst (λ k. k < length groups) (sym there) (c.places-places.ensures.within i 0 c.groups-test.true);
      grown_is = subst (λ k. IsGrown sizes next (group_at groups k)) (sym there) is;
    } in
    let best = c.groups.best in
    let rest = groups_at groups (drop (i + 1) items) in
    let among : Bool = nat_lt (length (filter (λ other. is_larger scope.lives other group) (filter ranked groups))) c.args.few in
    let growing : Bool = is_growing_over sizes c.args.ratio group in
    let choosable = is_choosable sizes scope.lives c.args.ratio c.args.few ranked groups in
    let now : groups_at groups (drop i items) ≡ group ∷ rest =
    rw (drop_more items i 0 c.groups-test.true) refl in
    let before : foremost (leads_over sizes) (best_group groups best) (filter choosable (group ∷ rest))
    ≡ foremost (leads_over sizes) None (filter choosable (groups_at groups items)) =
    rw now at c.groups.invariant.rest in
    let reported : is_growing_over sizes c.args.ratio group ≡ c.is_growing.result =
    sym (growing_as sizes c.args.ratio next group is) ∙ sym c.is_growing.ensures in
    let was = c.groups.invariant.grown in
    elim c.if-is_growing.branch [
      | then-is_growing+then-leads_any+then-is_among_largest w ↦
          let passes : choosable group ≡ true = choosable_all (ranked group) among growing
          (ap ranked (sym here) ∙ sym c.is_in_rank.ensures ∙ c.if-not-is_in_rank.false)
          (sym w.is_among_largest.ensures.among ∙ w.if-is_among_largest.true)
          (reported ∙ w.if-is_growing.true) in
          rw (w.best-is, w.cutoff-is) record {
            grown = at;
            known = w.is_among_largest.ensures.known;
            rest = ap (λ k. foremost (leads_over sizes) (Some (group_at groups k)) (filter choosable rest)) there
                ∙ next_taken sizes choosable groups best next group w.leads_any.result rest was is
                w.leads_any.ensures w.if-leads_any.true passes ∙ before;
          }
      | else-is_growing w ↦ elim w.else-is_growing.branch [
        | else-is_growing-via-then-is_growing+then-leads_any+else-is_among_largest v ↦
            let left : choosable group ≡ false = left_second (ranked group) among growing
            (sym v.is_among_largest.ensures.among ∙ v.if-is_among_largest.false) in
            rw (w.best-is, w.cutoff-is, v.cutoff-is) record {
              grown = was;
              known = v.is_among_largest.ensures.known;
              rest = next_left sizes choosable (best_group groups best) group rest left ∙ before;
            }
        | else-is_growing-via-then-is_growing+else-leads_any v ↦
            rw (w.best-is, w.cutoff-is, v.cutoff-is) record {
              grown = was;
              known = c.groups.invariant.known;
              rest = next_trails sizes choosable groups best next group v.leads_any.result rest was is
                  v.leads_any.ensures v.if-leads_any.false ∙ before;
            }
        | else-is_growing-via-else-is_growing v ↦
            let left : choosable group ≡ false = left_third (ranked group) among growing
            (reported ∙ v.if-is_growing.false) in
            rw (w.best-is, w.cutoff-is, v.cutoff-is) record {
              grown = was;
              known = c.groups.invariant.known;
              rest = next_left sizes choosable (best_group groups best) group rest left ∙ before;
            }
      ]
    ]
