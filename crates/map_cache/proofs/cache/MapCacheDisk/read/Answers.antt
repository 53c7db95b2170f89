use Rattle.map_cache.proofs.Entries.{lookup-promoted}
use Rattle.map_cache.proofs.cache.MapCacheDisk.read.Goals as goal

pub invariant_of-self : goal.invariant_of-self
invariant_of-self g c = rw (c.if-find.ensures.front) (record {
  told = c.self.invariant.told;
  bytes = λ n block is. c.self.invariant.bytes n block (rw (lookup-promoted c.args.at.0 n c.self.inside.held.blocks) at is);
})
