-- The ends that joined an object in an item: it has them behind it, it did not have them before, and no end joined twice.
use Rattle.std.proofs.Common.{◌≡◌, ◌∙◌, ◌==◌, ◌||◌, ◌++◌, ◌⊎◌, ℕ, Bool, true, false, List, [], ◌∷◌, map, refl, sym, ap, subst, inl, inr, if◌then◌else◌, eq-eqb, true≢false}
use Rattle.std.specs.List.{list_any}
use Rattle.std.proofs.lemmas.List.Folds.{list_any-append}
use Rattle.zq_base.specs.declared.ids.EndId.{EndId}
use Rattle.spec_control.specs.declared.entry.Did.{Did}
use Rattle.spec_control.specs.declared.entry.Did.TheVariants.{Asked as DidAsk, Delivered, Delimited}
use Rattle.spec_control.specs.declared.entry.Item.{Item}
use Rattle.spec_control.specs.declared.entry.Item.TheVariants.{Event, Seen}
use Rattle.spec_control.specs.declared.entry.Joining.{Joining}
use Rattle.spec_control.specs.declared.letter.Word.{Word}
use Rattle.spec_control.specs.declared.letter.Word.TheVariants.{Own, Plug, TermReq, Term, TermAck, PipeBind, PipeTerm, PipeTermAck, Stop, Reap}
use Rattle.spec_control.specs.declared.request.Req.{Req}
use Rattle.spec_control.specs.declared.request.Req.TheVariants.{Socket as MakeSocket, AskTerm, Bind, Connect, Unbind, Disconnect, Close, Accepted, Shaken, AskEnd, AskOver, OutputOver}
use Rattle.spec_control.specs.declared.request.Reply.{Reply}
use Rattle.spec_control.specs.declared.request.Reply.TheVariants.{Done, Object, Pair, Both, Wait, Asked, Before, Refused}
use Rattle.spec_control.specs.Rows.{is_owner}
use Rattle.spec_control.specs.Control.{Control, is_end}
use Rattle.spec_control.specs.ControlRun.{Joins, Fits, FitsItem, request_joins, unless_refused, word_joins}
use Rattle.spec_control.specs.Held.{Held, asker, heard_of, subject_of, held_as, ends_at_request, ends_at_word, ends_in, ends_then}
use Rattle.control_laws.specs.AttachedOnce.{AreOnce}
use Rattle.desk.specs.Joins.{come_by, came_in}
use Rattle.desk.specs.Desk.{came_with}
use Rattle.socket_laws.specs.Open.{IsOf, IsOfItem}
use Rattle.socket_laws.proofs.OwnQuietLemmas.{none_mapped}
use Rattle.socket_laws.proofs.MadeLemmas.{shown}
use Rattle.socket_laws.proofs.OnceLemmas.{Parts, once_parts, ends_of_all}

unless_none : (reply : Reply) → unless_refused reply [] ≡ (let none : List Joins = [] in none)
unless_none Done = refl
unless_none (Object o) = refl
unless_none (Pair p) = refl
unless_none (Both o p) = refl
unless_none Wait = refl
unless_none Asked = refl
unless_none Before = refl
unless_none (Refused refusal) = refl

module _ {N : Type 0} where
  -- what an object has behind a request or a command: what joined stands behind what it had, or none did
  abbrev pub Behind : List (Joining N) → (had has : List (Held N)) → Type 0
  Behind js had has = (js ≡ []) ⊎ (has ≡ had ++ map held_as js)

  at_request : (c : Control) (req : Req) (reply : Reply) (js : List (Joining N)) (hs : List (Held N)) → map shown js ≡ unless_refused reply (request_joins c req) → Behind js hs (ends_at_request req js hs)
  at_request c (Bind o at) reply js hs h = inr refl
  at_request c (Connect o at) reply js hs h = inr refl
  at_request c (Shaken o peer) reply js hs h = inr refl
  at_request c (MakeSocket kind options) reply js hs h = inl (none_mapped shown js (h ∙ unless_none reply))
  at_request c AskTerm reply js hs h = inl (none_mapped shown js (h ∙ unless_none reply))
  at_request c (Unbind o at) reply js hs h = inl (none_mapped shown js (h ∙ unless_none reply))
  at_request c (Disconnect o at) reply js hs h = inl (none_mapped shown js (h ∙ unless_none reply))
  at_request c (Close o) reply js hs h = inl (none_mapped shown js (h ∙ unless_none reply))
  at_request c (Accepted o) reply js hs h = inl (none_mapped shown js (h ∙ unless_none reply))
  at_request c (AskEnd e reason) reply js hs h = inl (none_mapped shown js (h ∙ unless_none reply))
  at_request c (AskOver o) reply js hs h = inl (none_mapped shown js (h ∙ unless_none reply))
  at_request c (OutputOver o) reply js hs h = inl (none_mapped shown js (h ∙ unless_none reply))

  at_word : (c : Control) (word : Word) (js : List (Joining N)) (hs : List (Held N)) → map shown js ≡ word_joins c word → Behind (come_by word js) hs (ends_at_word word js hs)
  at_word c (Plug e) js hs h = inr refl
  at_word c (PipeBind e peer) js hs h = inr refl
  at_word c (Own child) js hs h = inl (none_mapped shown js h)
  at_word c (TermReq child) js hs h = inl (none_mapped shown js h)
  at_word c Term js hs h = inl (none_mapped shown js h)
  at_word c (TermAck child) js hs h = inl (none_mapped shown js h)
  at_word c (PipeTerm e) js hs h = inl (none_mapped shown js h)
  at_word c (PipeTermAck e) js hs h = inl (none_mapped shown js h)
  at_word c Stop js hs h = inl (none_mapped shown js h)
  at_word c (Reap socket) js hs h = inl refl

  -- whose ends a command changes, or that none joins by it
  for_it : (to o : ℕ) (word : Word) (js : List (Joining N)) → to ≡ o → (come_by word js ≡ []) ⊎ ((heard_of to word == o) ≡ true)
  for_it to o (Reap socket) js is = inl refl
  for_it to o (Plug e) js is = inr (eq-eqb to o is)
  for_it to o (PipeBind e peer) js is = inr (eq-eqb to o is)
  for_it to o (Own child) js is = inr (eq-eqb to o is)
  for_it to o (TermReq child) js is = inr (eq-eqb to o is)
  for_it to o Term js is = inr (eq-eqb to o is)
  for_it to o (TermAck child) js is = inr (eq-eqb to o is)
  for_it to o (PipeTerm e) js is = inr (eq-eqb to o is)
  for_it to o (PipeTermAck e) js is = inr (eq-eqb to o is)
  for_it to o Stop js is = inr (eq-eqb to o is)

  where_it : (b : Bool) (js : List (Joining N)) (hs now : List (Held N)) → b ≡ true → Behind js hs now → Behind js hs (if b then now else hs)
  where_it true js hs now is h = h
  where_it false js hs now is h = absurd (true≢false (sym is))

  -- an item of an object
  pub came_behind : {S : Type 0} (o : ℕ) (c : Control) (item : Item N S) → FitsItem c item → IsOfItem o c item → (hs : List (Held N)) → Behind (came_with item) hs (ends_then o item hs)
  came_behind {S} o c (Seen sight) fits of hs = inl refl
  came_behind {S} o c (Event entry) fits of hs = by entry.did fits of
    where
      by : (did : Did N S) → Fits c did → IsOf o c did → Behind (came_in did) hs (if is_owner o (subject_of did) then ends_in did hs else hs)
      by (DidAsk req reply h) ok is =
          where_it (is_owner o (asker req)) h.joined hs (ends_at_request req h.joined hs) (ap (is_owner o) is ∙ eq-eqb o o refl) (at_request c req reply h.joined hs ok.answered.joined)
      by (Delivered slot letter h) ok is = elim (for_it letter.to.0 o letter.word h.joined is) [
        | inl none ↦ inl none
        | inr mine ↦ where_it (heard_of letter.to.0 letter.word == o) (come_by letter.word h.joined) hs (ends_at_word letter.word h.joined hs) mine (at_word c letter.word h.joined hs ok.answered.joined)
      ]
      by (Delimited e h) ok is = inl (none_mapped shown h.joined ok.answered.joined)

  -- ---- the ends that joined

  ends_both : (hs : List (Held N)) (js : List (Joining N)) → map (λ (x : Held N). x.end) (hs ++ map held_as js) ≡ map (λ (x : Held N). x.end) hs ++ ends_of_all js
  ends_both [] [] = refl
  ends_both [] (j ∷ js) = ap (λ (es : List EndId). j.end ∷ es) (ends_both [] js)
  ends_both (x ∷ hs) js = ap (λ (es : List EndId). x.end ∷ es) (ends_both hs js)

  -- each is among those that are had behind it and not among those before, and no two are one
  pub record AreJoined (js : List (Joining N)) (had has : List (Held N)) : Type 0 where
    pub once : AreOnce (ends_of_all js)
    pub apart : (e : EndId) → list_any (is_end e) (ends_of_all js) ≡ true → list_any (is_end e) (map (λ (x : Held N). x.end) had) ≡ true → ⊥
    pub there : (e : EndId) → list_any (is_end e) (ends_of_all js) ≡ true → list_any (is_end e) (map (λ (x : Held N). x.end) has) ≡ true

  pub are_joined : (js : List (Joining N)) (had has : List (Held N)) → Behind js had has → AreOnce (map (λ (x : Held N). x.end) has) → AreJoined js had has
  are_joined js had has (inl none) once = record {
    once = subst (λ (l : List (Joining N)). AreOnce (ends_of_all l)) (sym none) tt;
    apart = λ e among had_it. never e among;
    there = λ e among. absurd (never e among);
  }
    where
      never : (e : EndId) → list_any (is_end e) (ends_of_all js) ≡ true → ⊥
      never e among = true≢false (sym among ∙ ap (λ (l : List (Joining N)). list_any (is_end e) (ends_of_all l)) none)
  are_joined js had has (inr same) once = record {
    once = parts.last;
    apart = λ e among had_it. parts.apart e had_it among;
    there = λ e among. ap (list_any (is_end e)) ends ∙ list_any-append (is_end e) (map (λ (x : Held N). x.end) had) (ends_of_all js) ∙ later (list_any (is_end e) (map (λ (x : Held N). x.end) had)) (list_any (is_end e) (ends_of_all js)) among;
  }
    where
      ends : map (λ (x : Held N). x.end) has ≡ map (λ (x : Held N). x.end) had ++ ends_of_all js
      ends = ap (map (λ (x : Held N). x.end)) same ∙ ends_both had js

      parts : Parts (map (λ (x : Held N). x.end) had) (ends_of_all js)
      parts = once_parts (map (λ (x : Held N). x.end) had) (ends_of_all js) (subst AreOnce ends once)

      later : (a b : Bool) → b ≡ true → (a || b) ≡ true
      later true b h = refl
      later false b h = h
