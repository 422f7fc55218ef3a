use Rattle.std.proofs.Common.{◌≡◌, ◌<◌, ◌≤◌, ◌++◌, ℕ, List, [], refl, length, take, drop, sym, ap, subst, ◌∙◌, arith, ◌⊎◌, ⊎_elim}
use Rattle.std.specs.Prelude.{map}
use Rattle.std.proofs.lemmas.List.{get_or_past, length-map, take_at}
use Rattle.pressure_spec.specs.NextTick.{IsNextTick}
use Rattle.aggregate.specs.Table.{HasSizes}
use Rattle.aggregate.proofs.TableLaws.{sizes_same}
use Rattle.pressure_spec.specs.Samples.{row_at}
use Rattle.tick_engine.specs.declared.watch.TriggerWatch.{TriggerWatch}
use Rattle.tick_engine.specs.Tables.{tick_at}
use Rattle.tick_engine.specs.Step.{engine_group, group_step, watch_begun}
use Rattle.tick_engine.specs.Engine.{EngineView, Represents}
use Rattle.tick_engine.proofs.RepresentLaws as represents
use Rattle.tick_engine.proofs.StepLaws.{states_within}
use Rattle.tick_engine.proofs.engine.Engine.tick.Goals as goal

-- A list that was written back as a whole is the written list.
seam : {A : Type 0} (xs rest : List A) → (n m : ℕ) → length xs ≡ m → n ≡ m → take n (xs ++ rest) ≡ xs
seam xs rest n m long is = take_at xs rest n (long ∙ sym is)

-- The tables have the same sizes.
pub tick_all-requires-clause-sizes : goal.tick_all-requires-clause-sizes
tick_all-requires-clause-sizes c =
    let P : EngineView → Type 0 = λ engine. HasSizes engine.cpus (length engine.groups) c.args.rows.now in
    sizes_same c.self.inside.cpus (length c.self.inside.groups.items) c.self.inside.last.table c.args.rows.now c.self.invariant.1.sizes (subst P (sym c.self.view_is) c.requires.sizes)

pub tick_all-requires-clause-rows : goal.tick_all-requires-clause-rows
tick_all-requires-clause-rows c =
    let P : EngineView → Type 0 = λ engine. HasSizes engine.cpus (length engine.groups) c.args.rows.now in
    let has = subst P (sym c.self.view_is) c.requires.sizes in
    has.slots_are ∙ sym (ap length c.deref_mut-2.ensures.value)

pub tick_all-requires-clause-few : goal.tick_all-requires-clause-few
tick_all-requires-clause-few c = λ slot.
    let P : EngineView → Type 0 = λ engine. HasSizes engine.cpus (length engine.groups) c.args.rows.now in
    let has = subst P (sym c.self.view_is) c.requires.sizes in
    let within : slot < length c.args.rows.now → length (row_at (tick_at c.args.now c.args.rows.now) slot) ≤ 64 = λ below. omega (arith, has.cpus_are slot [] below, c.self.invariant.1.few_cpus) in
    let past : length c.args.rows.now ≤ slot → length (row_at (tick_at c.args.now c.args.rows.now) slot) ≤ 64 = λ beyond. rw (get_or_past c.args.rows.now slot [] beyond) (omega arith) in
    let case : (slot < length c.args.rows.now) ⊎ (length c.args.rows.now ≤ slot) = grind arith in
    ⊎_elim within past case

pub step_all-requires-clause-watches : goal.step_all-requires-clause-watches
step_all-requires-clause-watches c =
    let old = c.self.inside in
    let watches_long : old.watches.len ≡ length old.watches.items = omega (arith, c.deref_mut.ensures.len, ap length c.deref_mut.ensures.value) in
    let groups_long : old.groups.len ≡ length old.groups.items = omega (arith, c.deref_mut-2.ensures.len, ap length c.deref_mut-2.ensures.value) in
    let groups_same : length c.tick_all.new.groups ≡ length old.groups.items = omega (arith, c.tick_all.auto.groups, ap length c.deref_mut-2.ensures.value) in
    let groups_kept : length c.deref-2.result.now ≡ length old.groups.items = ap length (c.deref-2.ensures.value ∙ seam c.tick_all.new.groups _ _ (length old.groups.items) groups_same groups_long) ∙ groups_same in
    let begun : c.begin_all.new.watches ≡ map (watch_begun old.groups.items c.args.now) old.watches.items = c.begin_all.ensures ∙ rw (c.deref.ensures.value, c.deref_mut.ensures.value) refl in
    let begun_long : length c.begin_all.new.watches ≡ length old.watches.items = ap length begun ∙ length-map old.watches.items (watch_begun old.groups.items c.args.now) in
    let begun_seen : c.deref_mut-3.result.now ≡ map (watch_begun old.groups.items c.args.now) old.watches.items = c.deref_mut-3.ensures.value ∙ seam c.begin_all.new.watches _ _ (length old.watches.items) begun_long watches_long ∙ begun in
    rw (groups_kept, begun_seen) (represents.begun_within old.groups.items c.args.now (length old.groups.items) old.watches.items c.self.invariant.1.watches)

pub step_all-requires-clause-totals : goal.step_all-requires-clause-totals
step_all-requires-clause-totals c =
    let old = c.self.inside in
    let groups_long : old.groups.len ≡ length old.groups.items = omega (arith, c.deref_mut-2.ensures.len, ap length c.deref_mut-2.ensures.value) in
    let groups_same : length c.tick_all.new.groups ≡ length old.groups.items = omega (arith, c.tick_all.auto.groups, ap length c.deref_mut-2.ensures.value) in
    let groups_seen : c.deref-2.result.now ≡ c.tick_all.new.groups = c.deref-2.ensures.value ∙ seam c.tick_all.new.groups _ _ (length old.groups.items) groups_same groups_long in
    rw groups_seen (states_within (tick_at c.args.now c.args.rows.now) c.tick_all.new.groups c.requires.next.early c.tick_all.ensures.totals)

-- The three calls have the effect of the tick on the engine.
ticked : (c : goal.After-self-3-1) → represents.IsTicked (tick_at c.args.now c.args.rows.now)
    (record { cpus = c.self.inside.cpus; last = c.self.inside.last; groups = c.self.inside.groups.items; watches = c.self.inside.watches.items; fired = c.self.inside.fired.items })
    (record { cpus = c.self.inside.cpus; last = c.tick_all.new.last; groups = c.tick_all.new.groups; watches = c.step_all.new.watches; fired = c.step_all.new.fired.items })
ticked c =
    let old = c.self.inside in
    let now = c.args.now in
    let watches_long : old.watches.len ≡ length old.watches.items = omega (arith, c.deref_mut.ensures.len, ap length c.deref_mut.ensures.value) in
    let groups_long : old.groups.len ≡ length old.groups.items = omega (arith, c.deref_mut-2.ensures.len, ap length c.deref_mut-2.ensures.value) in
    let groups_same : length c.tick_all.new.groups ≡ length old.groups.items = omega (arith, c.tick_all.auto.groups, ap length c.deref_mut-2.ensures.value) in
    let groups_seen : c.deref-2.result.now ≡ c.tick_all.new.groups = c.deref-2.ensures.value ∙ seam c.tick_all.new.groups _ _ (length old.groups.items) groups_same groups_long in
    let begun : c.begin_all.new.watches ≡ map (watch_begun old.groups.items now) old.watches.items = c.begin_all.ensures ∙ rw (c.deref.ensures.value, c.deref_mut.ensures.value) refl in
    let begun_long : length c.begin_all.new.watches ≡ length old.watches.items = ap length begun ∙ length-map old.watches.items (watch_begun old.groups.items now) in
    let begun_seen : c.deref_mut-3.result.now ≡ map (watch_begun old.groups.items now) old.watches.items = c.deref_mut-3.ensures.value ∙ seam c.begin_all.new.watches _ _ (length old.watches.items) begun_long watches_long ∙ begun in
    let many : length c.deref_mut-3.result.now ≡ length old.watches.items = ap length begun_seen ∙ length-map old.watches.items (watch_begun old.groups.items now) in
    let stepped : (slot : ℕ) → slot < length c.deref_mut-2.result.now → engine_group c.tick_all.new.groups slot ≡ group_step old.last (tick_at now c.args.rows.now) slot (engine_group c.deref_mut-2.result.now slot) = c.tick_all.ensures.stepped in
    let groups_before : c.deref_mut-2.result.now ≡ old.groups.items = c.deref_mut-2.ensures.value in
    record {
      cpus = refl;
      last = c.tick_all.ensures.last;
      slots = groups_same;
      groups = rw groups_before at stepped;
      watches = c.step_all.ensures.watches ∙ rw (groups_seen, begun_seen) refl;
      fired = c.step_all.ensures.fired ∙ rw (many, groups_seen, begun_seen) refl;
    }

-- The borrowed lists were written back as a whole.
groups_whole : (c : goal.After-self-3-1) → take c.self.inside.groups.len (c.tick_all.new.groups ++ drop (length c.tick_all.new.groups) c.self.inside.groups.items) ≡ c.tick_all.new.groups
groups_whole c =
    let long : c.self.inside.groups.len ≡ length c.self.inside.groups.items = omega (arith, c.deref_mut-2.ensures.len, ap length c.deref_mut-2.ensures.value) in
    seam c.tick_all.new.groups _ _ (length c.self.inside.groups.items) (ticked c).slots long

watches_whole : (c : goal.After-self-3-1) → (rest : List TriggerWatch) → take c.self.inside.watches.len (c.step_all.new.watches ++ rest) ≡ c.step_all.new.watches
watches_whole c rest =
    let long : c.self.inside.watches.len ≡ length c.self.inside.watches.items = omega (arith, c.deref_mut.ensures.len, ap length c.deref_mut.ensures.value) in
    seam c.step_all.new.watches rest _ (length c.self.inside.watches.items) (represents.ticked_many (ticked c)) long

-- The tick is a legal successor of the engine's last tick.
next : (c : goal.After-self-3-1) → IsNextTick c.self.inside.last (tick_at c.args.now c.args.rows.now)
next c = let P : EngineView → Type 0 = λ engine. IsNextTick engine.last (tick_at c.args.now c.args.rows.now) in subst P (sym c.self.view_is) c.requires.next

pub invariant_of-self : goal.invariant_of-self
invariant_of-self c =
    let sizes : HasSizes c.self.inside.cpus (length c.self.inside.groups.items) c.args.rows.now =
    let P : EngineView → Type 0 = λ engine. HasSizes engine.cpus (length engine.groups) c.args.rows.now in subst P (sym c.self.view_is) c.requires.sizes in
    let many = represents.ticked_many (ticked c) in
    rw (groups_whole c, watches_whole c) (
      record { room = omega (arith, c.self.invariant.0.room, c.step_all.ensures.room, many) },
      represents.engine_kept _ _ (tick_at c.args.now c.args.rows.now) c.self.invariant.1 (next c) sizes (ticked c) c.tick_all.ensures.totals,
    )

pub returns-clause-last : goal.returns-clause-last
returns-clause-last c = c.tick_all.ensures.last

pub returns-clause-cpus : goal.returns-clause-cpus
returns-clause-cpus c = ap (λ (engine : EngineView). engine.cpus) c.self.view_is

pub returns-clause-slots : goal.returns-clause-slots
returns-clause-slots c = rw (groups_whole c) ((ticked c).slots ∙ ap (λ (engine : EngineView). length engine.groups) c.self.view_is)

pub returns-clause-stands : goal.returns-clause-stands
returns-clause-stands c = λ cpus lives triggers ticks stands.
    let tick = tick_at c.args.now c.args.rows.now in
    let before = let P : EngineView → Type 0 = λ engine. Represents engine cpus lives triggers ticks in subst P (sym c.self.view_is) stands in
    rw (groups_whole c, watches_whole c) (represents.is_next_in _ _ cpus lives triggers ticks tick c.self.invariant.1 (next c) (ticked c) before)
