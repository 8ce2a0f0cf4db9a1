-- What the hearing of a command does, in the control state and at the holder.
use Rattle.std.specs.Prelude.{◌≡◌, ◌≢◌, ◌⊎◌, [], ℕ, Bool, true, false, not, List, Option, None, All, map, refl}
use Rattle.std.proofs.Common.{arith, sym, ap, ◌∙◌, subst, inl, inr}
use Rattle.std.proofs.lemmas.Bool.{cases_eq}
use Rattle.std.proofs.lemmas.List.Elements.{All-nil}
use Rattle.zq_base.specs.declared.ids.EndId.{EndId}
use Rattle.zq_base.specs.declared.ids.ObjId.{ObjId}
use Rattle.spec_control.specs.declared.end.EndEvent.TheVariants.{TermCame}
use Rattle.spec_control.specs.declared.entry.Answered.{Answered}
use Rattle.spec_control.specs.declared.entry.Joining.{Joining}
use Rattle.spec_control.specs.declared.letter.Letter.{Letter}
use Rattle.spec_control.specs.declared.letter.Word.{Word}
use Rattle.spec_control.specs.declared.letter.Word.TheVariants.{Own, Plug, TermReq, Term, TermAck, PipeBind, PipeTerm, PipeTermAck, Stop, Reap}
use Rattle.zq_base.specs.declared.ids.Settled.{Settled}
use Rattle.spec_control.specs.Row.{OwnComes, RequestComes, AckComes, StopComes}
use Rattle.spec_control.specs.Rows.{obj}
use Rattle.spec_control.specs.Stage.{was_asked}
use Rattle.spec_control.specs.Control.{Control, link, try_end, happens}
use Rattle.spec_control.specs.After.{answers_in, processed}
use Rattle.spec_control.specs.ControlRun.{Joins, word_joins, MayAnswerAll, Settles}
use Rattle.control_laws.proofs.ListLemmas.{never}
use Rattle.desk.specs.declared.load.Load.{Load}
use Rattle.desk.specs.Holding.{Holding, IsTold, KeepsTurns, Stays}
use Rattle.desk.specs.Lent.{HasAll}
use Rattle.desk.specs.Output.{has_left, left_by}
use Rattle.desk.specs.Load.{IsNamed, brings_ends}
use Rattle.ctl_state.specs.declared.state.State.{State}
use Rattle.ctl_state.specs.Parts.{Tells}
use Rattle.ctl_state.specs.Stands.{Stands}
use Rattle.ctl_moves.specs.Turning.{Leads, turn_of}
use Rattle.ctl_moves.specs.Terming.{children_told, Turns}
use Rattle.ctl_moves.specs.Processing.{IsSilent, SaysLeft, is_plug, HasDone, AnswersTo, IsProcessed, HearsEnd, MayHear, is_bare}
use Rattle.ctl_moves.specs.Attaching.{KeepsPlaces}
use Rattle.ctl_state.specs.declared.belongings.Belongings.{Belongings}
use Rattle.ctl_state.specs.Lists.{belongings_at}
pub use Rattle.ctl_moves.proofs.HolderLemmas.{has_same, has_told, has_stayed, ended_has_none, bare_loaded}
pub use Rattle.ctl_moves.proofs.PutLemmas.{told_is_put, room_for}
pub use Rattle.control_laws.proofs.StayLemmas.{SameEnds, ends_stay, ends_on, where_told, tried, link_ends_stay, own_ends_stay, ack_ends_stay}

module _ {N O I : Type 0} (out_name : O → N) (in_name : I → N) (names : EndId → Option N) where
  -- objects were told, with a holder that has what it had
  pub bare_led : (c now : Control) (s t : State (Load N O I)) (k : Holding N) → Stands t now → HasAll names now k → Tells s t → HasDone out_name in_name names now s t k
  bare_led c now s t k stands has tells_them = record { stands = stands; has = has; puts = bare_loaded out_name in_name names s.boxes t.boxes tells_them.bare }

  -- lists that are as before have their places
  pub same_places : (word : Word) (to : ℕ) (s t : State (Load N O I)) → t.objects.lists ≡ s.objects.lists → KeepsPlaces word to s.objects.lists t.objects.lists
  same_places word to s t same i = let spare = ap (λ (ls : List Belongings). (belongings_at ls i).ends.spare) same in omega (arith, spare)

  -- a holder that had nothing to answer
  pub silent_answers : {S : Type 0} (c : Control) (h : Holding N) (letter : Letter) (a : Answered N S) (left : Bool) → SaysLeft left a → word_joins c letter.word ≡ [] → Settles c letter.word None → left ≡ left_by c letter.to.0 letter.word h →
      AnswersTo out_name in_name names c h letter a
  silent_answers c h letter a left says joins settles_none output = record {
    joined = ap (λ (js : List (Joining N)). map (λ j. let x : Joins = record { end = j.end; peer = j.peer; met = j.met } in x) js) says.joined ∙ sym joins;
    kinds = subst (λ (js : List (Joining N)). MayAnswerAll (processed letter.to.0 letter.word (answers_in a) c) js) (sym says.joined) tt;
    opened = says.opened;
    settled = subst (λ (x : Option Settled). Settles c letter.word x) (sym says.settled) settles_none;
    output = says.output ∙ output;
    named = subst (λ (js : List (Joining N)). All (IsNamed out_name in_name names) js) (sym says.joined) (All-nil (IsNamed out_name in_name names));
  }

-- ---- each command
module _ {N O I S : Type 0} (out_name : O → N) (in_name : I → N) (s t : State (Load N O I)) (h : Holding N) (to : ObjId) (a : Answered N S) (silent : IsSilent a) (c : Control) (names : EndId → Option N) where
  -- one that puts commands with no load alone
  bare_done : (k : Holding N) (word : Word) → word_joins c word ≡ [] → Settles c word None → false ≡ left_by c to.0 word h → Stands t (processed to.0 word (answers_in a) c) → HasAll names (processed to.0 word (answers_in a) c) k → Tells s t →
      IsProcessed out_name in_name s t h k names c (record { to = to; word = word }) a
  bare_done k word joins settles_none output stands has tells_them = record {
    answers = silent_answers out_name in_name names c h (record { to = to; word = word }) a false silent joins settles_none output;
    led = bare_led out_name in_name names c (processed to.0 word (answers_in a) c) s t k stands has tells_them;
    places = same_places out_name in_name names word to.0 s t tells_them.lists;
  }

  of_word : (k : Holding N) (letter_word word : Word) → letter_word ≡ word → IsProcessed out_name in_name s t h k names c (record { to = to; word = word }) a → IsProcessed out_name in_name s t h k names c (record { to = to; word = letter_word }) a
  of_word k letter_word word is done = subst (λ (x : Word). IsProcessed out_name in_name s t h k names c (record { to = to; word = x }) a) (sym is) done

  pub own_done : (word : Word) (child : ObjId) → word ≡ Own child → Stands t (processed to.0 (Own child) (answers_in a) c) → Tells s t → HasAll names c h → IsProcessed out_name in_name s t h h names c (record { to = to; word = word }) a
  own_done word child is stands tells_them has =
      of_word h word (Own child) is (bare_done h (Own child) refl refl refl stands
      (has_same names c (processed to.0 (Own child) (answers_in a) c) h (own_ends_stay (was_asked (obj c.rows to.0).stage) OwnComes child.0 c) has) tells_them)

  pub request_done : (word : Word) (child : ObjId) → word ≡ TermReq child → Stands t (processed to.0 (TermReq child) (answers_in a) c) → Tells s t → HasAll names c h → IsProcessed out_name in_name s t h h names c (record { to = to; word = word }) a
  request_done word child is stands tells_them has =
      of_word h word (TermReq child) is (bare_done h (TermReq child) refl refl refl stands
      (has_same names c (processed to.0 (TermReq child) (answers_in a) c) h (own_ends_stay (not (was_asked (obj c.rows to.0).stage)) RequestComes child.0 c) has) tells_them)

  -- the holder of an object that ended is told so
  pub ack_done : (k : Holding N) (word : Word) (child : ObjId) → word ≡ TermAck child → Stands t (try_end to.0 false (link AckComes child.0 c)) → Tells s t → HasAll names c h → (to.0 ≢ 0 → h.holds to.0 ≡ true) → IsTold to.0 h k →
      (to.0 ≡ 0 → k ≡ h) → IsProcessed out_name in_name s t h k names c (record { to = to; word = word }) a
  ack_done k word child is stands tells_them has lent told root =
      of_word k word (TermAck child) is (bare_done k (TermAck child) refl refl refl
      (subst (λ (b : Bool). Stands t (try_end to.0 b (link AckComes child.0 c))) (sym silent.output) stands) (holder_has (cases_eq to.0 0)) tells_them)
    where
      has_then : HasAll names (processed to.0 (TermAck child) (answers_in a) c) h
      has_then = has_same names c (processed to.0 (TermAck child) (answers_in a) c) h (ack_ends_stay to.0 (answers_in a).left AckComes child.0 c) has

      holder_has : (to.0 ≡ 0) ⊎ (to.0 ≡ 0 → ⊥) → HasAll names (processed to.0 (TermAck child) (answers_in a) c) k
      holder_has (inl zero_is) = subst (λ (x : Holding N). HasAll names (processed to.0 (TermAck child) (answers_in a) c) x) (sym (root zero_is)) has_then
      holder_has (inr above) = has_told names (processed to.0 (TermAck child) (answers_in a) c) h k to.0 (lent above) told has_then

  pub stop_done : (k : Holding N) (word : Word) → word ≡ Stop → Stands t (link StopComes to.0 c) → Tells s t → HasAll names c h → Stays to.0 h k → KeepsTurns h k → IsProcessed out_name in_name s t h k names c (record { to = to; word = word }) a
  stop_done k word is stands tells_them has stays keeps =
      of_word k word Stop is (bare_done k Stop refl refl refl stands (has_stayed names (link StopComes to.0 c) h k to.0 stays keeps has) tells_them)

  pub turn_done : (k : Holding N) (word : Word) (e : EndId) → word ≡ PipeTerm e → Leads out_name in_name names (turn_of e c (happens TermCame e c)) (happens TermCame e c) s t h k → IsProcessed out_name in_name s t h k names c (record { to = to; word = word }) a
  turn_done k word e is leads =
      of_word k word (PipeTerm e) is (record {
        answers = silent_answers out_name in_name names c h (record { to = to; word = PipeTerm e }) a false silent refl refl refl;
        led = record { stands = leads.stands; has = leads.has; puts = leads.puts };
        places = same_places out_name in_name names (PipeTerm e) to.0 s t leads.lists;
      })

-- the object did what its Term asks
module _ {N O I S : Type 0} (out_name : O → N) (in_name : I → N) (s t : State (Load N O I)) (h k : Holding N) (to : ObjId) (a : Answered N S) (c : Control) (names : EndId → Option N) where
  pub term_done : (word : Word) → word ≡ Term → SaysLeft (has_left c to.0 h) a → Turns out_name in_name names c (try_end to.0 (has_left c to.0 h) (children_told to.0 c)) s t h k → IsProcessed out_name in_name s t h k names c (record { to = to; word = word }) a
  term_done word is says turns =
      subst (λ (x : Word). IsProcessed out_name in_name s t h k names c (record { to = to; word = x }) a) (sym is) (record {
        answers = silent_answers out_name in_name names c h (record { to = to; word = Term }) a (has_left c to.0 h) says refl refl refl;
        led = record {
          stands = subst (λ (b : Bool). Stands t (try_end to.0 b (children_told to.0 c))) (sym says.output) turns.stands;
          has = subst (λ (b : Bool). HasAll names (try_end to.0 b (children_told to.0 c)) k) (sym says.output) turns.has;
          puts = turns.puts;
        };
        places = same_places out_name in_name names Term to.0 s t turns.lists;
      })

-- ---- a command that brings nothing
module _ {N O I : Type 0} (out_name : O → N) (in_name : I → N) where
  -- whatever is said that it brings
  pub bare_ends : (names : EndId → Option N) (c : Control) (s : State (Load N O I)) (h : Holding N) (at : ℕ) (word : Word) (load : Option (Load N O I)) → is_bare word ≡ true → HearsEnd out_name in_name names c s h at word load → HearsEnd out_name in_name names c s h at word None
  bare_ends names c s h at (Own child) load bare is = is
  bare_ends names c s h at (Plug end) load bare is = absurd (never bare)
  bare_ends names c s h at (TermReq child) load bare is = is
  bare_ends names c s h at Term load bare is = is
  bare_ends names c s h at (TermAck child) load bare is = is
  bare_ends names c s h at (PipeBind e peer) load bare is = absurd (never bare)
  bare_ends names c s h at (PipeTerm e) load bare is = is
  bare_ends names c s h at (PipeTermAck e) load bare is = absurd (never bare)
  bare_ends names c s h at Stop load bare is = is
  bare_ends names c s h at (Reap socket) load bare is = absurd (never bare)

  abbrev pub bare_may : (s : State (Load N O I)) (h : Holding N) (letter : Letter) (load : Option (Load N O I)) → is_bare letter.word ≡ true → MayHear out_name in_name s h letter load → MayHear out_name in_name s h letter None
  bare_may s h letter load bare w = record {
    control = w.control;
    names = w.names;
    stands = w.stands;
    has = w.has;
    lent = w.lent;
    hears = w.hears;
    ends = bare_ends w.names w.control s h letter.to.0 letter.word load bare w.ends;
  }

-- a command of these brings nothing
pub bare_of : (word : Word) → ((x : ObjId) × (word ≡ Own x)) ⊎ (((x : ObjId) × (word ≡ TermReq x)) ⊎ (((x : ObjId) × (word ≡ TermAck x)) ⊎ (((x : EndId) × (word ≡ PipeTerm x)) ⊎ ((word ≡ Stop) ⊎ (word ≡ Term))))) → is_bare word ≡ true
bare_of word (inl w) = ap is_bare w.1
bare_of word (inr (inl w)) = ap is_bare w.1
bare_of word (inr (inr (inl w))) = ap is_bare w.1
bare_of word (inr (inr (inr (inl w)))) = ap is_bare w.1
bare_of word (inr (inr (inr (inr (inl w))))) = ap is_bare w
bare_of word (inr (inr (inr (inr (inr w))))) = ap is_bare w

pub bare_no_plug : (word : Word) → is_bare word ≡ true → is_plug word ≡ false
bare_no_plug (Own child) bare = refl
bare_no_plug (Plug end) bare = absurd (never bare)
bare_no_plug (TermReq child) bare = refl
bare_no_plug Term bare = refl
bare_no_plug (TermAck child) bare = refl
bare_no_plug (PipeBind e peer) bare = refl
bare_no_plug (PipeTerm e) bare = refl
bare_no_plug (PipeTermAck e) bare = refl
bare_no_plug Stop bare = refl
bare_no_plug (Reap socket) bare = refl

pub bare_brings_none : (word : Word) → is_bare word ≡ true → brings_ends word ≡ true → ⊥
bare_brings_none (Own child) bare brings = never brings
bare_brings_none (Plug end) bare brings = never brings
bare_brings_none (TermReq child) bare brings = never brings
bare_brings_none Term bare brings = never brings
bare_brings_none (TermAck child) bare brings = never brings
bare_brings_none (PipeBind e peer) bare brings = never bare
bare_brings_none (PipeTerm e) bare brings = never brings
bare_brings_none (PipeTermAck e) bare brings = never bare
bare_brings_none Stop bare brings = never brings
bare_brings_none (Reap socket) bare brings = never bare
