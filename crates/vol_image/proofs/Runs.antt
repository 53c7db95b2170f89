-- Runs within a frame: one lemma for each call.
use Rattle.std.proofs.Common.{◌≡◌, inl, ⊎_elim, ℕ, ◌<◌, IsTrue, List, length, set, Result, Ok, Err, OnOk, sym, ◌∙◌, subst, arith}
use Rattle.vol_image.proofs.Words.{Frames, Ghosts, Graph, Holds, Image, IsSameDisk, IsSettled, Leaves, Nothing, Within, Written, left_now, on, then}
use Rattle.vol_image.proofs.Steps.{frames_begin, frames_write}

module _ {D : Type 0} (g : Ghosts D) (a : Image) (graph : Graph) where
  -- nothing waits
  pub begins : (d : D) → IsSettled g d → g.content d ≡ a → Holds a graph → Within g a graph d d
  begins d s is holds = record {
    tells = s.tells;
    content = subst (Frames a graph) (sym is) (frames_begin a graph holds);
    here = λ c h. subst (Frames a graph) (sym (s.only c h ∙ is)) (frames_begin a graph holds);
    leaves = record { later = omega arith; since = λ t c le h. inl h; now = λ c h. inl h };
  }

  -- a read or a barrier, done or failed
  pub stays : (start old new : D) → Within g a graph start old → g.content new ≡ g.content old → ((n : ℕ) → IsTrue (g.told old n) → IsTrue (g.told new n)) → Leaves g old new Nothing → IsSameDisk g.blocks g.honest g.tells_images old new → Within g a graph start new
  stays start old new run same told images disk = record {
    tells = record { honest = subst IsTrue (sym disk.honesty) run.tells.honest; told = λ n. told n (run.tells.told n) };
    content = subst (Frames a graph) (sym same) run.content;
    here = λ c h. ⊎_elim (λ was. run.here c was) (λ none. absurd none) (images.now c h);
    leaves = on g start old new (Frames a graph) run.leaves images;
  }

-- one write, of a block with which the content stays within the frame
module _ {D : Type 0} (g : Ghosts D) (a : Image) (graph : Graph) (start old new : D) (n : ℕ) (block : List ℕ) (run : Within g a graph start old) (below : n < length a) (within : Frames a graph (set (g.content old) n block)) where
  image_within : (c : Image) → Written (left_now g old) n block c → Frames a graph c
  image_within c w = subst (Frames a graph) (sym w.2) (frames_write a graph w.0 (g.content old) n block (omega (arith, below, run.content.size)) (run.here w.0 w.1) within)

  -- done or failed
  pub tried : Leaves g old new (Written (left_now g old) n block) → Leaves g start new (Frames a graph)
  tried images = then g start old new (Frames a graph) (Written (left_now g old) n block) run.leaves images image_within

  -- done
  pub wrote : Leaves g old new (Written (left_now g old) n block) → IsSameDisk g.blocks g.honest g.tells_images old new → g.content new ≡ set (g.content old) n block → ((m : ℕ) → IsTrue (g.told old m) → IsTrue (g.told new m)) → Within g a graph start new
  wrote images same content told = record {
    tells = record { honest = subst IsTrue (sym same.honesty) run.tells.honest; told = λ m. told m (run.tells.told m) };
    content = subst (Frames a graph) (sym content) within;
    here = λ c h. ⊎_elim (λ was. run.here c was) (image_within c) (images.now c h);
    leaves = tried images;
  }

-- what two clauses say of a call that is done
pub both_ok : {T E P Q R : Type 0} → (r : Result T E) → OnOk r P → OnOk r Q → (P → Q → R) → OnOk r R
both_ok (Ok v) p q f = f p q
both_ok (Err e) p q f = tt
