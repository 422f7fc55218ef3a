use Rattle.std.proofs.Common.{◌≡◌, ℕ, suc, ◌-◌, true, [], drop, arith, sym, subst, rules}
use Rattle.std.specs.Prelude.{filter}
use Rattle.observer_log.specs.Entries.{is_of}
use Rattle.observer_log.proofs.CountLaws.{last_here}
use Rattle.observer_log.proofs.journal.last_count.Goals as goal

pub returns-then-entry-cpu : goal.returns-then-entry-cpu
returns-then-entry-cpu c =
    let place : suc (c.back.left - 1) ≡ c.back.left = omega arith in
    let none = subst (λ (n : ℕ). filter (is_of c.args.observer c.args.cpu.0) (drop n c.args.entries.now) ≡ []) (sym place) c.back.invariant.1 in
    sym (last_here c.args.entries.now (c.back.left - 1) c.index-entries-left.result c.args.observer c.args.cpu.0 (search rules) (search rules) (search rules) none)
