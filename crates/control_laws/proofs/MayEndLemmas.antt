-- An end of a listener or a session that had its Plug is not on its way, and one that may be asked stands among its ends.
use Rattle.std.specs.Prelude.{◌≡◌, ◌+◌, ◌==◌, ◌||◌, ◌++◌, ℕ, Bool, true, false, not, cond, List, [], ◌∷◌, Option, Some, None, filter, map, sum_by, refl}
use Rattle.std.specs.List.{list_any}
use Rattle.std.proofs.Common.{arith, sym, ap, ◌∙◌}
use Rattle.std.proofs.lemmas.Bool.{eq-eqb, eqb-true}
use Rattle.std.proofs.lemmas.List.Elements.{All-head, All-tail}
use Rattle.zq_base.specs.declared.ids.EndId.{EndId}
use Rattle.spec_control.specs.declared.letter.Letter.{Letter}
use Rattle.spec_control.specs.declared.letter.Word.{Word}
use Rattle.spec_control.specs.declared.letter.Word.TheVariants.{Own, Plug, TermReq, Term, TermAck, PipeBind, PipeTerm, PipeTermAck, Stop, Reap}
use Rattle.spec_control.specs.Place.{Place, Unmade, Away, At, Binds, EndWord, Half, is_away, is_here}
use Rattle.spec_control.specs.PairPhase.{Phase, Drawn, Opened, OpenedAsked, OpenedSeen, Both, BothSeen, BothSaw, AskedOne, Waits, Seen, Crossed, CrossedOne, CrossedBoth, Acked, FirstGone, LastOne, Over, half, place_in}
use Rattle.spec_control.specs.Stage.{is_coming, is_ending, is_told}
use Rattle.spec_control.specs.Row.{Row, nobody, GetsPlug, GetsStop, GetsTerm, first_if, is_socket}
use Rattle.spec_control.specs.Rows.{Rows, ack_waits, behind, bind_waits, end_half, end_owner, end_place, end_waits, is_owner, living, lives_noted, may_end, no_pair, obj, of_child, of_ends, owed, own_waits, pair}
use Rattle.spec_control.specs.Control.{Control, end_of, is_end, owner_of, place_of}
use Rattle.desk.specs.Lent.{here_ends}
use Rattle.control_laws.proofs.ListLemmas.{never, and}
use Rattle.control_laws.specs.Kept.{Kept}
use Rattle.control_laws.specs.Mail.{Mark, Sign, OwnSign, RequestSign, ReapSign, AckSign, PlugSign, StopSign, TermSign, BindSign, PipeTermSign, PipeAckSign, DownLink, EndLink, down_mark, down_marks, end_mark, end_marks, is_link, on_way, slot_of, word_marks}
use Rattle.control_laws.proofs.AskLemmas.{among_ends, same_end}
use Rattle.control_laws.proofs.EndLemmas.{kept_but}
use Rattle.control_laws.proofs.LinkLemmas.{seen}
use Rattle.control_laws.proofs.PluggedLemmas.{AreForSockets, IsForSocket, SocketsServe}
use Rattle.control_laws.proofs.StepLemmas.{inv_of}
use Rattle.control_laws.proofs.TellLemmas.{rows_of}
use Rattle.control_laws.proofs.QuietLemmas.{nothing}

-- ---- what is on its way to an end begins with its bind
abbrev is_plug : Sign → Bool
is_plug OwnSign = false
is_plug RequestSign = false
is_plug ReapSign = false
is_plug AckSign = false
is_plug PlugSign = true
is_plug StopSign = false
is_plug TermSign = false
is_plug BindSign = false
is_plug PipeTermSign = false
is_plug PipeAckSign = false

abbrev is_bind : Sign → Bool
is_bind OwnSign = false
is_bind RequestSign = false
is_bind ReapSign = false
is_bind AckSign = false
is_bind PlugSign = false
is_bind StopSign = false
is_bind TermSign = false
is_bind BindSign = true
is_bind PipeTermSign = false
is_bind PipeAckSign = false

abbrev plugs : Mark → Bool
plugs m = is_plug m.sign

abbrev first_to : List Mark → ℕ
first_to [] = 0
first_to (m ∷ ms) = m.to

abbrev first_binds : List Mark → Bool
first_binds [] = false
first_binds (m ∷ ms) = is_bind m.sign

any_behind : {X : Type 0} (f : X → Bool) (xs ys : List X) → list_any f ys ≡ true → list_any f (xs ++ ys) ≡ true
any_behind f [] ys h = h
any_behind f (x ∷ xs) ys h = by (f x) (any_behind f xs ys h)
  where
    by : (b : Bool) → list_any f (xs ++ ys) ≡ true → (b || list_any f (xs ++ ys)) ≡ true
    by true r = refl
    by false r = r

module _ (s : Rows) (i k : ℕ) (a : Bool) (no_socket : is_socket (obj s i).kind ≡ false) where
  -- a bind for a listener or a session comes with its Plug
  word_binds : (to : ℕ) (word : Word) (more downs rest : List Mark) → IsForSocket s to word → word_marks (EndLink k a) to word ++ more ≡ record { to = i; sign = BindSign } ∷ rest →
      (more ≡ record { to = i; sign = BindSign } ∷ rest → list_any plugs downs ≡ true) → list_any plugs (word_marks (DownLink i) to word ++ downs) ≡ true
  word_binds to (Own child) more downs rest is h later = any_behind plugs (word_marks (DownLink i) to (Own child)) downs (later h)
  word_binds to (TermReq child) more downs rest is h later = any_behind plugs (word_marks (DownLink i) to (TermReq child)) downs (later h)
  word_binds to (TermAck child) more downs rest is h later = any_behind plugs (word_marks (DownLink i) to (TermAck child)) downs (later h)
  word_binds to (Reap socket) more downs rest is h later = any_behind plugs (word_marks (DownLink i) to (Reap socket)) downs (later h)
  word_binds to (Plug None) more downs rest is h later = any_behind plugs (word_marks (DownLink i) to (Plug None)) downs (later h)
  word_binds to Term more downs rest is h later = any_behind plugs (word_marks (DownLink i) to Term) downs (later h)
  word_binds to Stop more downs rest is h later = any_behind plugs (word_marks (DownLink i) to Stop) downs (later h)
  word_binds to (Plug (Some e)) more downs rest is h later = by (is_link (EndLink k a) (EndLink e.pair.0 e.a)) h
    where
      by : (b : Bool) → cond b (record { to = to; sign = BindSign } ∷ []) [] ++ more ≡ record { to = i; sign = BindSign } ∷ rest → list_any plugs (word_marks (DownLink i) to (Plug (Some e)) ++ downs) ≡ true
      by true g =
          let at : to ≡ i = ap first_to g in
          ap (λ (b : Bool). list_any plugs ((cond b (record { to = to; sign = PlugSign } ∷ []) [] ++ word_marks (DownLink i) to (PipeTerm e)) ++ downs)) (eq-eqb i to (sym at))
      by false g = any_behind plugs (word_marks (DownLink i) to (Plug (Some e))) downs (later g)
  word_binds to (PipeBind e peer) more downs rest is h later = by (is_link (EndLink k a) (EndLink e.pair.0 e.a)) h
    where
      by : (b : Bool) → cond b (record { to = to; sign = BindSign } ∷ []) [] ++ more ≡ record { to = i; sign = BindSign } ∷ rest → list_any plugs (word_marks (DownLink i) to (PipeBind e peer) ++ downs) ≡ true
      by true g = absurd (never (sym no_socket ∙ ap (λ (n : ℕ). is_socket (obj s n).kind) (sym (ap first_to g)) ∙ is))
      by false g = any_behind plugs (word_marks (DownLink i) to (PipeBind e peer)) downs (later g)
  word_binds to (PipeTerm e) more downs rest is h later = by (is_link (EndLink k a) (EndLink e.pair.0 e.a)) h
    where
      by : (b : Bool) → cond b (record { to = to; sign = PipeTermSign } ∷ []) [] ++ more ≡ record { to = i; sign = BindSign } ∷ rest → list_any plugs (word_marks (DownLink i) to (PipeTerm e) ++ downs) ≡ true
      by true g = absurd (never (ap first_binds g))
      by false g = any_behind plugs (word_marks (DownLink i) to (PipeTerm e)) downs (later g)
  word_binds to (PipeTermAck e) more downs rest is h later = by (is_link (EndLink k a) (EndLink e.pair.0 e.a)) h
    where
      by : (b : Bool) → cond b (record { to = to; sign = PipeAckSign } ∷ []) [] ++ more ≡ record { to = i; sign = BindSign } ∷ rest → list_any plugs (word_marks (DownLink i) to (PipeTermAck e) ++ downs) ≡ true
      by true g = absurd (never (ap first_binds g))
      by false g = any_behind plugs (word_marks (DownLink i) to (PipeTermAck e)) downs (later g)

  all_bind : (ls : List Letter) (rest : List Mark) → AreForSockets s ls → on_way (EndLink k a) ls ≡ record { to = i; sign = BindSign } ∷ rest → list_any plugs (on_way (DownLink i) ls) ≡ true
  all_bind [] rest all h = absurd (none h)
    where
      none : [] ≡ record { to = i; sign = BindSign } ∷ rest → ⊥
      none g = never (ap first_binds g)
  all_bind (l ∷ ls) rest all h =
      word_binds l.to.0 l.word (on_way (EndLink k a) ls) (on_way (DownLink i) ls) rest (All-head (λ x. IsForSocket s x.to.0 x.word) l ls all) h
      (λ g. all_bind ls rest (All-tail (λ x. IsForSocket s x.to.0 x.word) l ls all) g)

-- none is on its way to who had its Plug
down_none : (i : ℕ) (o : Row) → o.plugged ≡ true → list_any plugs (down_marks i o) ≡ false
down_none i o plugged = by o.plugged (is_coming o.stop) (is_told o.stage) plugged
  where
    by : (p x t : Bool) → p ≡ true → list_any plugs (map (down_mark i) (first_if (not p) GetsPlug (first_if x GetsStop (first_if t GetsTerm [])))) ≡ false
    by true true true h = refl
    by true true false h = refl
    by true false true h = refl
    by true false false h = refl
    by false x t h = absurd (never h)

away_is : (p : Place) → is_away p ≡ true → p ≡ Away
away_is Unmade h = absurd (never h)
away_is Away h = refl
away_is (At state) h = absurd (never h)

phase_binds : (phase : Phase) (first : Bool) → is_away (place_in phase first) ≡ true → (ws : List EndWord) × ((half phase first).mail ≡ Binds ∷ ws)
phase_binds Drawn first h = absurd (never h)
phase_binds Opened true h = absurd (never h)
phase_binds Opened false h = ([], refl)
phase_binds OpenedAsked true h = absurd (never h)
phase_binds OpenedAsked false h = (_, refl)
phase_binds OpenedSeen true h = absurd (never h)
phase_binds OpenedSeen false h = ([], refl)
phase_binds Both first h = absurd (never h)
phase_binds BothSeen true h = absurd (never h)
phase_binds BothSeen false h = absurd (never h)
phase_binds BothSaw first h = absurd (never h)
phase_binds AskedOne true h = absurd (never h)
phase_binds AskedOne false h = absurd (never h)
phase_binds Waits true h = absurd (never h)
phase_binds Waits false h = absurd (never h)
phase_binds Seen true h = absurd (never h)
phase_binds Seen false h = absurd (never h)
phase_binds Crossed first h = absurd (never h)
phase_binds CrossedOne true h = absurd (never h)
phase_binds CrossedOne false h = absurd (never h)
phase_binds CrossedBoth first h = absurd (never h)
phase_binds Acked true h = absurd (never h)
phase_binds Acked false h = absurd (never h)
phase_binds FirstGone true h = absurd (never h)
phase_binds FirstGone false h = absurd (never h)
phase_binds LastOne true h = absurd (never h)
phase_binds LastOne false h = absurd (never h)
phase_binds Over first h = absurd (never h)

-- ---- of a listener or a session that had its Plug
module _ (c : Control) (kept : Kept c) (serve : SocketsServe c.rows c.boxes) (i : ℕ) (no_socket : is_socket (obj c.rows i).kind ≡ false) (plugged : (obj c.rows i).plugged ≡ true) where
  not_away : (k : ℕ) (a : Bool) → end_owner (pair c.rows k) a ≡ i → is_away (end_place (pair c.rows k) a) ≡ false
  not_away k a own = by (is_away (end_place (pair c.rows k) a)) refl
    where
      slot : ℕ
      slot = (obj c.rows i).slot

      clash : is_away (end_place (pair c.rows k) a) ≡ true → ⊥
      clash away =
          let v = seen (pair c.rows k) ((inv_of (rows_of (kept_but 0 c kept))).phases k) a in
          let mail = phase_binds v.phase v.first (sym (ap (λ (h : Half). is_away h.place) v.mine) ∙ away) in
          let way : end_marks (pair c.rows k) a ≡ record { to = i; sign = BindSign } ∷ map (end_mark i) mail.0 =
          ap (λ (n : ℕ). map (end_mark n) (end_half (pair c.rows k) a).mail) own ∙ ap (λ (h : Half). map (end_mark i) h.mail) v.mine ∙ ap (map (end_mark i)) mail.1 in
          let here = kept.delivered slot (EndLink k a) ∙ ap (λ (b : Bool). cond b (end_marks (pair c.rows k) a) []) (eq-eqb (slot_of c.rows (EndLink k a)) slot (ap (λ (n : ℕ). (obj c.rows n).slot) own)) ∙ way in
          let down = kept.delivered slot (DownLink i) ∙ ap (λ (b : Bool). cond b (down_marks i (obj c.rows i)) []) (eq-eqb slot slot refl) in
          never (sym (down_none i (obj c.rows i) plugged) ∙ ap (list_any plugs) (sym down) ∙ all_bind c.rows i k a no_socket (c.boxes slot) (map (end_mark i) mail.0) (serve.binds slot) here)

      by : (b : Bool) → is_away (end_place (pair c.rows k) a) ≡ b → b ≡ false
      by true e = absurd (clash e)
      by false e = refl

  -- where it has no end that may be asked, none is there
  not_here : here_ends c.rows.pairs c.attached i ≡ [] → (k : ℕ) (a : Bool) → end_owner (pair c.rows k) a ≡ i → is_here (end_place (pair c.rows k) a) ≡ false
  not_here none k a own = by (is_here (end_place (pair c.rows k) a)) refl
    where
      stays : (es : List EndId) → list_any (is_end (end_of k a)) es ≡ true → is_here (place_of c (end_of k a)) ≡ true → list_any (is_end (end_of k a)) (filter (λ e. is_here (place_of c e)) es) ≡ true
      stays [] h is = absurd (never h)
      stays (e ∷ es) h is = pick (is_end (end_of k a) e) refl (is_here (place_of c e)) refl (λ g. stays es g is) h
        where
          pick : (x : Bool) → is_end (end_of k a) e ≡ x → (y : Bool) → is_here (place_of c e) ≡ y → (list_any (is_end (end_of k a)) es ≡ true → list_any (is_end (end_of k a)) (filter (λ d. is_here (place_of c d)) es) ≡ true) →
              (x || list_any (is_end (end_of k a)) es) ≡ true → list_any (is_end (end_of k a)) (cond y (e ∷ filter (λ d. is_here (place_of c d)) es) (filter (λ d. is_here (place_of c d)) es)) ≡ true
          pick true same true here rest g = ap (λ (b : Bool). b || list_any (is_end (end_of k a)) (filter (λ d. is_here (place_of c d)) es)) same
          pick true same false gone rest g = absurd (never (sym gone ∙ ap (λ (d : EndId). is_here (place_of c d)) (sym (same_end (end_of k a) e same)) ∙ is))
          pick false other true here rest g = ap (λ (b : Bool). b || list_any (is_end (end_of k a)) (filter (λ d. is_here (place_of c d)) es)) other ∙ rest g
          pick false other false gone rest g = rest g

      by : (b : Bool) → is_here (end_place (pair c.rows k) a) ≡ b → b ≡ false
      by true e =
          absurd (never (ap (list_any (is_end (end_of k a))) (sym none)
          ∙ stays (filter (λ d. owner_of c d == i) c.attached) (among_ends i c (end_of k a) c.attached own (kept.listed k a e)) e))
      by false e = refl

  -- ---- it can end
  pub may_end_now : is_ending (obj c.rows i).stage ≡ true → here_ends c.rows.pairs c.attached i ≡ [] → ((o w : ℕ) → (obj c.rows o).owner ≡ Some w → w ≡ i → ⊥) → may_end c.rows i ≡ true
  may_end_now ending none leaf =
      and _ _ ending (and _ _ (eq-eqb (behind c.rows i) 0 level) (and _ _ (eq-eqb (owed c.rows i) 0 nothing_owed) (eq-eqb (living c.rows i) 0 (kids lives_noted))))
    where
      kids : (f : Row → ℕ) → sum_by (of_child f i) c.rows.objects ≡ 0
      kids f = nothing (of_child f i) c.rows.objects nobody (λ n. by n (obj c.rows n).owner refl)
        where
          by : (n : ℕ) (w : Option ℕ) → (obj c.rows n).owner ≡ w → of_child f i (obj c.rows n) ≡ 0
          by n None e = ap (λ (v : Option ℕ). cond (is_owner i v) (f (obj c.rows n)) 0) e
          by n (Some w) e = ap (λ (v : Option ℕ). cond (is_owner i v) (f (obj c.rows n)) 0) e ∙ pick (w == i) refl
            where
              pick : (b : Bool) → (w == i) ≡ b → cond b (f (obj c.rows n)) 0 ≡ 0
              pick true same = absurd (leaf n w e (eqb-true w i same))
              pick false other = refl

      ends : (g : Place → ℕ) → ((k : ℕ) (a : Bool) → end_owner (pair c.rows k) a ≡ i → g (end_place (pair c.rows k) a) ≡ 0) → sum_by (of_ends g i) c.rows.pairs ≡ 0
      ends g h = nothing (of_ends g i) c.rows.pairs no_pair (λ k. add ((pair c.rows k).a_owner == i) ((pair c.rows k).b_owner == i) _ _ (λ e. h k true (eqb-true (pair c.rows k).a_owner i e)) (λ e. h k false (eqb-true (pair c.rows k).b_owner i e)))
        where
          add : (x y : Bool) (m n : ℕ) → (x ≡ true → m ≡ 0) → (y ≡ true → n ≡ 0) → cond x m 0 + cond y n 0 ≡ 0
          add true true m n p q = let one = p refl in let two = q refl in omega (arith, one, two)
          add true false m n p q = let one = p refl in omega (arith, one)
          add false true m n p q = let two = q refl in omega (arith, two)
          add false false m n p q = omega arith

      level : behind c.rows i ≡ 0
      level =
          let p = ap {B = ℕ} (λ (b : Bool). cond b 0 1) plugged in
          let k = kids own_waits in
          let b = ends bind_waits (λ k a own. ap (λ (x : Bool). cond x 1 0) (not_away k a own)) in
          omega (arith, p, k, b)

      nothing_owed : owed c.rows i ≡ 0
      nothing_owed =
          let k = kids ack_waits in
          let b = ends end_waits (λ k a own. ap (λ (x : Bool). cond x 1 0) (not_here none k a own)) in
          omega (arith, k, b)
