-- What `answer` writes is the text that `show` left, of the bytes that `read_full` gave.
use Rattle.std.proofs.Common.{◌≡◌, ℕ, List, ◌++◌, length, take, drop, Result, Ok, Err, None, Some, IfSome, OnOk, rules, ap, ◌∙◌, subst}
use Rattle.std.specs.declared.option.Option.{Option}
use Rattle.std.specs.Io.KnownBytes.{Appends}
use lib.Seq.{take-append_seam}
use Rattle.lines.specs.Promise.{BookText, Leaves}
use Rattle.rota.specs.Answer.{IsFront, Answers, book_room}
use Rattle.rota.proofs.answer.Goals as goal

told : {A E : Type 0} (r : Result A E) (left old new : Option (List ℕ)) (bs out out' : List ℕ) (k room : ℕ) → room ≡ book_room
    → IsFront left room bs → Leaves (BookText bs) out k out' → OnOk r (Appends old new (take k out'))
    → OnOk r (IfSome left (λ given. Answers given old new))
told (Err e) left old new bs out out' k room sized gives leaves wrote = tt
told (Ok x) None old new bs out out' k room sized gives leaves wrote = tt
told (Ok x) (Some given) old new bs out out' k room sized gives leaves wrote =
    let put : take k out' ≡ leaves.text = ap (take k) leaves.put ∙ ap (λ n. take n (leaves.text ++ drop (length leaves.text) out)) leaves.long ∙ take-append_seam leaves.text _ in
    record {
      text = leaves.text;
      right = subst (λ b. BookText b leaves.text) (gives ∙ ap (λ n. take n given) sized) leaves.right;
      put = subst (Appends old new) put wrote;
    }

pub returns-in-Some : goal.returns-in-Some
returns-in-Some g c =
    told c.write_all.result _ _ _ _ _ _ c.in-Some.size _ (search rules) c.in_ok-count.ensures.first (c.in-Some.ensures.1) c.write_all.ensures.bytes
