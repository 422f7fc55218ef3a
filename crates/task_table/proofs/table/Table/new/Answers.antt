use Rattle.std.proofs.Common.{◌≡◌, ap, arith, length, ℕ}
use Rattle.psi_spec.specs.World.{first_world}
use Rattle.psi_counts.proofs.LegalLaws.{legal_first}
use Rattle.task_table.proofs.Index as index
use Rattle.task_table.proofs.MemberLaws as members
use Rattle.task_table.specs.Stands.{TableView}
use Rattle.task_table.proofs.table.Table.new.Goals as goal

pub invariant_of-result : goal.invariant_of-result
invariant_of-result c =
    rw (c.in_ok-new.ensures, c.in_ok-new-2.ensures, c.in_ok-new-3.ensures) (record {
      legal = legal_first _;
      index = index.index_first _ c.loop.invariant.none;
      members_are = members.no_members;
      cover = omega arith;
      cpus = omega (arith, c.loop.invariant.count, c.requires, c.loop.auto.counter-end);
    })

pub returns : goal.returns
returns c =
    let same : length c.loop.running.items ≡ c.args.cpus = omega (arith, c.loop.invariant.count, c.loop-test.false, c.loop.auto.counter-end) in
    let view : ℕ → TableView = λ n. record { limits = record { cpus = n; latest = c.args.latest }; world = first_world } in
    rw (c.in_ok-new.ensures, c.in_ok-new-3.ensures) (ap view same)
