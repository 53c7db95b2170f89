use Rattle.std.proofs.Common.{ℕ, List, length, set, ap, ◌∙◌, arith, ◌<◌}
use Rattle.std.specs.Simd.{first_chunks}
use Rattle.cfs_fakes.proofs.Chunks.{chunk_set, chunks_are_blocks, length_chunks}
use Rattle.cfs_fakes.proofs.store.Store.write.Goals as goal

pub returns-clause-written : goal.returns-clause-written
returns-clause-written c =
    let s = c.self.inside in
    let within : c.args.n < s.count = omega (arith, ap length c.self.view_is, length_chunks 512 s.count s.bytes.items) in
    ap (λ (xs : List ℕ). first_chunks 512 s.count xs) c.put_block.ensures.put
    ∙ chunk_set 512 s.count c.args.n s.bytes.items c.bytes.result.now within (ap length c.bytes.ensures.bytes ∙ c.bytes.ensures.long) c.self.invariant.size
    ∙ ap (λ (i : List (List ℕ)). set i c.args.n c.bytes.result.now) c.self.view_is
    ∙ ap (λ (b : List ℕ). set c.args.self.now c.args.n b) c.bytes.ensures.bytes

pub returns-clause-blocks : goal.returns-clause-blocks
returns-clause-blocks c =
    let s = c.self.inside in
    chunks_are_blocks s.count c.put_block.new.bytes.items (record { size = c.put_block.ensures.size ∙ c.self.invariant.size; each = c.put_block.ensures.each })
