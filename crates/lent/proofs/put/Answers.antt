-- The part that is written over is as long as the word.
use Rattle.std.proofs.Common.{refl, arith, sym, ap, ◌∙◌, ◌≡◌, ◌+◌, ◌-◌, ◌≤◌, List, ℕ, length, take, drop, ◌++◌, append_assoc, drop-drop}
use Rattle.std.proofs.lemmas.List.Edits.{sets, sets-eq}
use borrow.Rule.Slice.PartMut.{put_mid}
use Rattle.lent.proofs.Stores.{put_text}
use Rattle.lent.proofs.put.Goals as goal

placed : (out : List ℕ) (at : ℕ) (word : List ℕ) → at + length word ≤ length out → put_mid at (at + length word - at) out word ≡ sets out at word
placed out at word h =
    let width : at + length word - at ≡ length word = omega arith in
    rw width
    (ap (λ l. take at out ++ (word ++ l)) (drop-drop (length word) at out)
    ∙ sym (append_assoc (take at out) word (drop (at + length word) out)) ∙ sym (sets-eq word out at h))

pub returns : goal.returns
returns c = rw c.copy_from_slice.ensures.after (put_text _ _ _ _ _ refl (placed _ _ _ c.requires) c.requires)
