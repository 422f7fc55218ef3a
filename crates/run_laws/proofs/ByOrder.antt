-- Proofs about the reports of a tick in a fixed order of all slots.
use Rattle.std.proofs.Common.{◌≡◌, ℕ, List, [], ◌∷◌, ◌++◌, map, refl, ap, ◌∙◌, Bool, true, false, cond}
use Rattle.std.specs.Prelude.{filter, if◌then◌else◌}
use Rattle.std.specs.List.{flat_map}
use Rattle.psi_spec.specs.Groups.{is_live_at}
use Rattle.pressure_spec.specs.Samples.{life_of}
use Rattle.pressure_spec.specs.Ticks.{tick_moment}
use Rattle.plan_laws.specs.Moments.{is_live_slot, with_path}
use Rattle.plan_laws.proofs.MomentsOrder.{order_shows_live}
use Rattle.run_spec.specs.Replay.{group_report, lives_of}
use Rattle.run_laws.specs.Reports.{ReportsByOrder, average_state_at, slot_report, totals_at}

-- joining the texts of the elements that pass a test is joining texts that are empty for all other
-- elements
pieces_where : {X Y : Type 0} → (test : X → Bool) (g : X → Y) (f : Y → List ℕ) (h : X → List ℕ) (xs : List X)
    → ((x : X) → test x ≡ true → h x ≡ f (g x)) → ((x : X) → test x ≡ false → h x ≡ []) → flat_map f (map g (filter test xs)) ≡ flat_map h xs
pieces_where test g f h [] here none = refl
pieces_where test g f h (x ∷ xs) here none =
    let rest = pieces_where test g f h xs here none in
    elim (test x) as (λ b. test x ≡ b → flat_map f (map g (cond b (x ∷ filter test xs) (filter test xs))) ≡ flat_map h (x ∷ xs)) [
      | true ↦ λ is. rw (here x is) (ap (λ ys. f (g x) ++ ys) rest)
      | false ↦ λ is. rw (none x is) rest
    ] refl

where_true : (b : Bool) (text : List ℕ) → b ≡ true → (if b then text else []) ≡ text
where_true b text is = rw is refl

where_false : (b : Bool) (text : List ℕ) → b ≡ false → (if b then text else []) ≡ []
where_false b text is = rw is refl

pub reports_by_order : ReportsByOrder
reports_by_order limits trace timing i order legal is =
    let at = tick_moment timing.length i in
    let lives = lives_of trace in
    ap (flat_map (group_report trace timing i)) (order_shows_live limits trace.events legal order is at)
    ∙ pieces_where (is_live_slot lives at) (with_path lives) (group_report trace timing i) (slot_report trace.version at lives (totals_at trace timing i) (average_state_at trace timing i)) order
    (λ slot live. where_true (is_live_at (life_of lives slot) at) _ live)
    (λ slot gone. where_false (is_live_at (life_of lives slot) at) _ gone)
