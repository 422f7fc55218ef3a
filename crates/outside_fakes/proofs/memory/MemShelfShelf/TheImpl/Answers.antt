use Rattle.std.specs.Prelude.{IsErrOf}
use Rattle.outside_fakes.specs.Memory.{GivesOf}
use Rattle.outside.specs.declared.shelf.ShelfFault.TheVariants.{Failed}
use Rattle.outside_fakes.proofs.Fakes as laws
use Rattle.outside_fakes.proofs.memory.MemShelfShelf.TheImpl.Goals as goal

pub read_at-tells : goal.read_at-tells
read_at-tells = λ c.
    let gives : (IsErrOf c.result Failed → ⊥) → GivesOf c.args.self.now.files.items c.args.name.now c.args.at c.args.self.now.most c.args.into.now c.new.into.now c.result = λ ok. c.ensures.gives (λ fails. ok (c.ensures.failed.1 fails)) in
    record {
      unchanged = cc;
      bound = laws.gives_bound _ _ _ _ _ _ _ gives;
      bytes = laws.gives_bytes _ _ _ _ _ _ _ gives;
      cause = laws.shelf_causes c.result c.args.self.now.faults c.new.self.now.faults c.args.self.now.absent c.new.self.now.absent c.ensures.faults c.ensures.absent;
      bytes_read = c.ensures.bytes_read;
      log = c.ensures.log;
      missed = laws.gives_missed _ _ _ _ _ _ _ gives;
      lacking = laws.gives_lacking _ _ _ _ _ _ _ gives;
    }
