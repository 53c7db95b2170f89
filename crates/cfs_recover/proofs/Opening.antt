-- The parts of an opening, one after the other: a barrier, reads, and writes.
use Rattle.std.proofs.Common.{◌≡◌, ⊎_elim, ℕ, length, refl, sym, ◌∙◌, Err}
use Rattle.cfs_recover.proofs.Words.{AreBlocks, Ghosts, IfErr, IfOk, Image, IsSettled, IsUntouched, Leads, Nothing, Ok, OnOk, OnlyReads, Result, Stores, Tells, on, tells_on, then, wider}

pub stores_content : {D : Type 0} (g : Ghosts D) (d : D) → Tells g d → length (g.content d) ≡ g.blocks d → AreBlocks (g.content d) → Stores g d (g.content d)
stores_content g d tells size blocks = record { tells = tells; content = refl; size = size; blocks = blocks }

-- ---- what was read before

module _ {D : Type 0} (g : Ghosts D) (old mid : D) (n : ℕ) (reads : OnlyReads g n old mid) where
  pub settled_reads : IsSettled g old → IsSettled g mid
  settled_reads s = record {
    tells = tells_on g old mid mid n reads s.tells;
    only = λ c h. ⊎_elim (λ was. s.only c was ∙ sym reads.content) (λ none. absurd none) (reads.images.now c h);
  }

  pub leads_reads : (P : Image → Type 0) (new : D) → Leads g P mid new → Leads g P old new
  leads_reads P new second = record {
    content = second.content;
    leaves = then g old mid new P P (wider g old mid Nothing P reads.images (λ c none. absurd none)) second.leaves (λ c p. p);
  }

-- ---- the barrier before

pub untouched_then : {D : Type 0} (g : Ghosts D) (old mid new : D) → IsUntouched g old mid → IsUntouched g mid new → IsUntouched g old new
untouched_then g old mid new first second = record { content = second.content ∙ first.content; images = on g old mid new Nothing first.images second.images }

-- ---- results

pub err_as : {T E : Type 0} (P Q : E → Type 0) (r : Result T E) → ((e : E) → P e → Q e) → IfErr r P → IfErr r Q
err_as P Q (Ok v) more is = is
err_as P Q (Err e) more is = more e is

pub ok_as : {T E : Type 0} (P Q : T → Type 0) (r : Result T E) → ((v : T) → P v → Q v) → IfOk r P → IfOk r Q
ok_as P Q (Ok v) more is = more v is
ok_as P Q (Err e) more is = is

pub on_ok : {T E : Type 0} (P : T → Type 0) (Q : Type 0) (r : Result T E) → ((v : T) → P v → Q) → IfOk r P → OnOk r Q
on_ok P Q (Ok v) more is = more v is
on_ok P Q (Err e) more is = is
