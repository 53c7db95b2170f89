use Rattle.std.proofs.Common.{◌≡◌, inl, inr, ◌+◌, ◌<◌, ℕ, List, [], ◌∷◌, ◌++◌, length, map, take, refl, sym, ◌∙◌, ap, arith, length-append}
use Rattle.std.proofs.lemmas.Bool.{cases_lt}
use Rattle.std.proofs.lemmas.List.{get_or_append_left, get_or_push, map-append, take_more}
use Rattle.cfs_base.specs.Disk.{Image, block_at}
use Rattle.cfs_check.specs.Sized.{AreSized, word_in}
use Rattle.cfs_base.proofs.Calls.{reads_then, tells_on}
use Rattle.cfs_check.proofs.image.read_all.Goals as goal

whole_push : (image : Image) (block : List ℕ) (more : Image) → more ≡ image ++ block ∷ [] → AreSized image → length block ≡ 512 → AreSized more
whole_push image block more is whole long n below = elim (cases_lt n (length image)) [
  | inl less ↦ ap (λ (b : Image). length (block_at b n)) is ∙ ap length (get_or_append_left image (block ∷ []) [] n less) ∙ whole n less
  | inr past ↦
      let last : length image ≡ n = omega (arith, below, ap length is, length-append image (block ∷ []), past) in
      ap (λ (b : Image). length (block_at b n)) is ∙ ap length (get_or_push image block [] n last) ∙ long
]

pub loop-at-preserved : goal.loop-at-preserved
loop-at-preserved g c =
    let old = c.args.disk.now in
    let mid = c.loop-at.disk in
    let n = c.loop-at.at in
    let before = c.loop-at.invariant in
    let content = g.D.Disk.content old in
    record {
      reads = reads_then g.D.Disk old mid c.read_block.new.disk n 1 (n + 1) before.reads c.in_ok-block.ensures.reads (omega arith);
      count = omega (arith, before.count, ap length c.in_ok-push-2.ensures.items, length-append {A = List ℕ});
      words = omega (arith, before.words, ap length c.in_ok-push.ensures.items, length-append {A = ℕ});
      words_are = c.in_ok-push.ensures.items ∙ (λ i. before.words_are i ++ c.u32_at.ensures.value i ∷ []) ∙ sym (map-append word_in c.loop-at.blocks.items (c.in_ok-block.block ∷ [])) ∙ ap (map word_in) (sym c.in_ok-push-2.ensures.items);
      whole = whole_push c.loop-at.blocks.items c.in_ok-block.block c.push-in-loop-at.new.self.items c.in_ok-push-2.ensures.items before.whole c.in_ok-block.ensures.whole;
      told = λ tells.
          let size = g.met.D.Disk.sized old tells.honest in
          let block = c.in_ok-block.ensures.told (tells_on g.D.Disk old mid mid n before.reads tells) in
          c.in_ok-push-2.ensures.items
          ∙ (λ i. before.told tells i ++ (block ∙ ap (λ image. block_at image n) before.reads.content) i ∷ [])
          ∙ sym (take_more content n [] (omega (arith, size, c.loop-at-test.true)));
    }
