use Rattle.std.proofs.Common.{◌≡◌, ◌∙◌, ◌%◌, nat_eq, rules, sym}
use Rattle.std.proofs.lemmas.Bool.{eqb-true}
use Rattle.lru.specs.LruCache.{lru_cache, put_entries}
use Rattle.map_cache.specs.declared.held.Stage.TheVariants.{Keeping}
use Rattle.map_cache.proofs.Holdings.{put_done, put_holds, put_takes_in}
use Rattle.map_cache.proofs.held.Held.take_in.Goals.{then-eq, else-eq}
use Rattle.map_cache.proofs.held.Held.take_in.Goals as goal

-- a map block is taken in while blocks are kept
is_kept : (c : goal.Else-is_err) → (c.self.inside.stage ≡ Keeping) × (c.args.at % 64 ≡ 0)
is_kept c = elim c.if-eq.branch [
  | then-eq w ↦ (search rules, eqb-true (c.args.at % 64) 0 (cc))
  | else-eq w ↦ cc
]

after : (c : goal.Else-is_err) → c.put-put.new.self ≡ lru_cache (put_entries nat_eq c.self.inside.blocks c.args.at c.args.block.now) c.self.inside.blocks.cap
after c = put_done c.put-put.result c.put-put.ensures.entries (sym c.is_err.ensures.value ∙ c.if-is_err.false)

pub invariant_of-self-else-is_err : goal.invariant_of-self-else-is_err
invariant_of-self-else-is_err c = rw (after c) (put_holds _ c.args.at c.args.block.now c.self.invariant (is_kept c).0 (is_kept c).1)

pub returns-else-is_err : goal.returns-else-is_err
returns-else-is_err c = rw (after c, ← c.self.view_is) (put_takes_in _ c.args.at c.args.block.now (is_kept c).0 (is_kept c).1)
