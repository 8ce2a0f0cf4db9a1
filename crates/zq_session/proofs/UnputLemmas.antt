-- The acts at a link, and the same with each message that was dropped as a put.
use Rattle.std.proofs.Common.{◌≡◌, ℕ, List, [], ◌∷◌, ◌++◌, Option, Some, None, refl, sym, ap, subst, ◌∙◌, inl, inr, append_assoc}
use Rattle.std.specs.Prelude.{◌⊎◌}
use Rattle.std.specs.List.{flat_map}
use Rattle.std.proofs.lemmas.List.{append-nil}
use Rattle.std.proofs.lemmas.List.Concat.{flat_map-append}
use Rattle.zq_base.specs.Message.{Frames}
use Rattle.zq_base.specs.Ends.{PipeId}
use Rattle.zq_base.specs.declared.options.EngineOpts.{EngineOpts}
use Rattle.zq_base.specs.declared.options.Peer.{Peer}
use Rattle.zq_base.specs.declared.kind.Kind.{Kind}
use Rattle.zq_base.specs.declared.kind.Kind.TheVariants.{Push, Pull, Pair, Dealer, Req, Rep, Router, Pub, XPub, Sub, XSub}
use Rattle.zq_outer.specs.declared.link.LinkGot.{LinkGot}
use Rattle.zq_outer.specs.declared.link.LinkPut.{LinkPut}
use Rattle.msg_pipe.specs.declared.pipes.Taken.{Taken}
use Rattle.msg_pipe.specs.declared.pipes.Taken.TheVariants as taken
use Rattle.spec_pattern.specs.PipeStep.{Commit, FullLook, RoomLook, Take, EmptyLook, DelimiterLook, WaitingLook, Seal}
use Rattle.spec_zmtp.specs.Put.{Put}
use Rattle.spec_zmtp.specs.declared.cause.Cause.{Cause}
use Rattle.spec_zmtp.specs.declared.cause.Refusal.{Refusal}
use Rattle.spec_zmtp.specs.DecodedStream.{Decoded, Decodes, Refused}
use Rattle.spec_link.specs.LinkAct.{LinkAct, Wire, Step, Repeats, said_by, heard_by, offered_by, said_of, heard_of, offered_of, put_of}
use mathlib.Core.List.{IsPrefix}
use Rattle.zmtp_engine.specs.Conversation.{unwritten}
use Rattle.spec_link.specs.LinkRun.{AreToSay, IsAllSaid, IsLinkRun, octets_to_say}
use Rattle.spec_link.specs.Parts.{NothingToWrite, SomethingToWrite, MayTake, IsWritePart, write_acts, read_acts, puts}
use Rattle.spec_link.specs.History.{Basis}
use Rattle.spec_link.specs.Turn.{IsWriteOnly}
use Rattle.link_side.specs.Kept.{Kept, HasRun, Acts, IsAtRest, IsKeptOf, KeepsActs, unput_by, without_puts, whole}
use Rattle.link_side.specs.Works.{take_acts}
use Rattle.zq_session.specs.Noting.{Next, Takes, Says, next_acts}
use Rattle.link_side.proofs.RestLemmas.{some_meaning, put_to_say, said_left, messages_left}
use Rattle.link_side.specs.Silent.{HasOutput, HasNone, IsRefusedNow, IsUnrefused, IsShaken, IsUnshaken}

-- ---- without the puts

-- what puts don't add, the acts without them add alike
unput_adds : {A : Type 0} (f : LinkAct → List A) → ((pipe : PipeId) (m : Frames) → f (Step (Commit pipe m)) ≡ []) → (acts : List LinkAct) → flat_map f (without_puts acts) ≡ flat_map f acts
unput_adds f none [] = refl
unput_adds f none (Wire act ∷ acts) = ap (λ (l : List _). f (Wire act) ++ l) (unput_adds f none acts)
unput_adds f none (Step (Commit pipe m) ∷ acts) = unput_adds f none acts ∙ sym (ap (λ (l : List _). l ++ flat_map f acts) (none pipe m))
unput_adds f none (Step (FullLook pipe) ∷ acts) = ap (λ (l : List _). f (Step (FullLook pipe)) ++ l) (unput_adds f none acts)
unput_adds f none (Step (RoomLook pipe) ∷ acts) = ap (λ (l : List _). f (Step (RoomLook pipe)) ++ l) (unput_adds f none acts)
unput_adds f none (Step (Take pipe m) ∷ acts) = ap (λ (l : List _). f (Step (Take pipe m)) ++ l) (unput_adds f none acts)
unput_adds f none (Step (EmptyLook pipe) ∷ acts) = ap (λ (l : List _). f (Step (EmptyLook pipe)) ++ l) (unput_adds f none acts)
unput_adds f none (Step (DelimiterLook pipe) ∷ acts) = ap (λ (l : List _). f (Step (DelimiterLook pipe)) ++ l) (unput_adds f none acts)
unput_adds f none (Step (WaitingLook pipe) ∷ acts) = ap (λ (l : List _). f (Step (WaitingLook pipe)) ++ l) (unput_adds f none acts)
unput_adds f none (Step (Seal pipe) ∷ acts) = ap (λ (l : List _). f (Step (Seal pipe)) ++ l) (unput_adds f none acts)

pub unput_write : (answer : Option LinkPut) (octets : List ℕ) → without_puts (write_acts answer octets) ≡ write_acts answer octets
unput_write None octets = refl
unput_write (Some a) octets = refl

unput_take : (pipe : PipeId) (found : Option Taken) → without_puts (take_acts pipe found) ≡ take_acts pipe found
unput_take pipe None = refl
unput_take pipe (Some (taken.Item m)) = refl
unput_take pipe (Some taken.Empty) = refl
unput_take pipe (Some taken.Delimiter) = refl

pub unput_read : (answer : Option LinkGot) (octets : List ℕ) → without_puts (read_acts answer octets) ≡ read_acts answer octets
unput_read None octets = refl
unput_read (Some a) octets = refl

pub unput_puts : (pipe : PipeId) (ms : List Frames) → without_puts (puts pipe ms) ≡ []
unput_puts pipe [] = refl
unput_puts pipe (m ∷ ms) = unput_puts pipe ms

-- lists behind lists
pub both : {A : Type 0} (a b c d : List A) → a ≡ c → b ≡ d → a ++ b ≡ c ++ d
both a b c d e k = ap (λ (l : List _). l ++ b) e ∙ ap (λ (l : List _). c ++ l) k

pub unput_on : (xs ys : List LinkAct) (a b : List LinkAct) → without_puts xs ≡ a → without_puts ys ≡ b → without_puts (xs ++ ys) ≡ a ++ b
unput_on xs ys a b e k = flat_map-append unput_by xs ys ∙ both (without_puts xs) (without_puts ys) a b e k

pub unput_writing : (answer : Option LinkPut) (octets : List ℕ) (pipe : PipeId) (found : Option Taken) → without_puts (write_acts answer octets ++ take_acts pipe found) ≡ write_acts answer octets ++ take_acts pipe found
unput_writing answer octets pipe found = unput_on (write_acts answer octets) (take_acts pipe found) (write_acts answer octets) (take_acts pipe found) (unput_write answer octets) (unput_take pipe found)

pub unput_next : (answer : Option LinkPut) (octets : List ℕ) (pipe : PipeId) (next : Next) → without_puts (write_acts answer octets ++ next_acts pipe next) ≡ write_acts answer octets ++ next_acts pipe next
unput_next answer octets pipe (Takes found) = unput_writing answer octets pipe found
unput_next answer octets pipe (Says None) = unput_on (write_acts answer octets) [] (write_acts answer octets) [] (unput_write answer octets) refl
unput_next answer octets pipe (Says (Some m)) = unput_on (write_acts answer octets) (Wire (Repeats m) ∷ []) (write_acts answer octets) (Wire (Repeats m) ∷ []) (unput_write answer octets) refl

-- ---- acts more

pub does_by : (opts : EngineOpts) (old new : Kept) (all more : List LinkAct) → Acts old all new → ((opts.kind ≡ Push → ⊥) → all ≡ more) → (opts.kind ≡ Push → without_puts all ≡ more) → KeepsActs opts old more new
does_by opts old new all more f puts_are drops_are = λ acts r. record {
  all = r.all ++ all;
  run = f opts r.all r.run;
  puts = λ n. both r.all all acts more (r.puts n) (puts_are n);
  drops = λ e. unput_on r.all all acts more (r.drops e) (drops_are e);
}

-- acts without puts
pub does_these : (opts : EngineOpts) (old new : Kept) (more : List LinkAct) → without_puts more ≡ more → Acts old more new → KeepsActs opts old more new
does_these opts old new more e f = does_by opts old new more more f (λ n. refl) (λ _. e)

-- those of a session that drops nothing
pub does_puts : (opts : EngineOpts) (old new : Kept) (more : List LinkAct) → (opts.kind ≡ Push → ⊥) → Acts old more new → KeepsActs opts old more new
does_puts opts old new more n f = does_by opts old new more more f (λ _. refl) (λ e. absurd (n e))

pub does_on : (opts : EngineOpts) (a b c : Kept) (xs ys : List LinkAct) → KeepsActs opts a xs b → KeepsActs opts b ys c → KeepsActs opts a (xs ++ ys) c
does_on opts a b c xs ys f g = λ acts r. subst (λ (l : List LinkAct). IsKeptOf opts l c) (append_assoc acts xs ys) (g (acts ++ xs) (f acts r))

pub does_as : (opts : EngineOpts) (a b : Kept) (xs ys : List LinkAct) → xs ≡ ys → KeepsActs opts a xs b → KeepsActs opts a ys b
does_as opts a b xs ys e f = subst (λ (l : List LinkAct). KeepsActs opts a l b) e f

pub does_nothing : (opts : EngineOpts) (a : Kept) → KeepsActs opts a [] a
does_nothing opts a = λ acts r. subst (λ (l : List LinkAct). IsKeptOf opts l a) (sym (append-nil acts)) r

-- before any act
pub of_nothing : (opts : EngineOpts) (k : Kept) → HasRun opts [] k → IsKeptOf opts [] k
of_nothing opts k r = record { all = []; run = r; puts = λ n. refl; drops = λ e. refl }

-- where nothing is dropped, what is kept is of the very acts
pub run_of : (opts : EngineOpts) (acts : List LinkAct) (k : Kept) → (opts.kind ≡ Push → ⊥) → IsKeptOf opts acts k → HasRun opts acts k
run_of opts acts k n r = subst (λ (l : List LinkAct). HasRun opts l k) (r.puts n) r.run

-- ---- what the acts tell

pub push_or_not : (kind : Kind) → (kind ≡ Push) ⊎ (kind ≡ Push → ⊥)
push_or_not Push = inl refl
push_or_not Pull = inr (λ e. absurd cc)
push_or_not Pair = inr (λ e. absurd cc)
push_or_not Dealer = inr (λ e. absurd cc)
push_or_not Req = inr (λ e. absurd cc)
push_or_not Rep = inr (λ e. absurd cc)
push_or_not Router = inr (λ e. absurd cc)
push_or_not Pub = inr (λ e. absurd cc)
push_or_not XPub = inr (λ e. absurd cc)
push_or_not Sub = inr (λ e. absurd cc)
push_or_not XSub = inr (λ e. absurd cc)

-- two lists of acts say, hear and offer the same
pub record TellsAs (xs ys : List LinkAct) : Type 0 where
  pub said : said_of xs ≡ said_of ys
  pub heard : heard_of xs ≡ heard_of ys
  pub offered : offered_of xs ≡ offered_of ys

same_add : {A : Type 0} (f : LinkAct → List A) → ((pipe : PipeId) (m : Frames) → f (Step (Commit pipe m)) ≡ []) → (opts : EngineOpts) (acts : List LinkAct) (k : Kept) → (r : IsKeptOf opts acts k) → flat_map f r.all ≡ flat_map f acts
same_add f none opts acts k r =
    elim (push_or_not opts.kind) as (λ _. flat_map f r.all ≡ flat_map f acts) [
      | inl e ↦ sym (unput_adds f none r.all) ∙ ap (λ (l : List LinkAct). flat_map f l) (r.drops e)
      | inr n ↦ ap (λ (l : List LinkAct). flat_map f l) (r.puts n)
    ]

pub tells_as : (opts : EngineOpts) (acts : List LinkAct) (k : Kept) → (r : IsKeptOf opts acts k) → TellsAs r.all acts
tells_as opts acts k r = record {
  said = same_add said_by (λ pipe m. refl) opts acts k r;
  heard = same_add heard_by (λ pipe m. refl) opts acts k r;
  offered = same_add offered_by (λ pipe m. refl) opts acts k r;
}

add_on : {A : Type 0} (f : LinkAct → List A) (xs ys more : List LinkAct) → flat_map f xs ≡ flat_map f ys → flat_map f (xs ++ more) ≡ flat_map f (ys ++ more)
add_on f xs ys more e = flat_map-append f xs more ∙ ap (λ (l : List _). l ++ flat_map f more) e ∙ sym (flat_map-append f ys more)

tells_on : (xs ys more : List LinkAct) → TellsAs xs ys → TellsAs (xs ++ more) (ys ++ more)
tells_on xs ys more t = record {
  said = add_on said_by xs ys more t.said;
  heard = add_on heard_by xs ys more t.heard;
  offered = add_on offered_by xs ys more t.offered;
}

tells_back : (xs ys : List LinkAct) → TellsAs xs ys → TellsAs ys xs
tells_back xs ys t = record { said = sym t.said; heard = sym t.heard; offered = sym t.offered }

module _ (opts : EngineOpts) (xs ys : List LinkAct) (t : TellsAs xs ys) where
  to_say_as : (d : Decoded) (puts : List Put) → AreToSay opts xs d puts → AreToSay opts ys d puts
  to_say_as d puts a = record { messages = a.messages ∙ t.offered; ours = a.ours; later = a.later; first = a.first }

  all_said_as : (d : Decoded) → IsAllSaid opts d xs → IsAllSaid opts d ys
  all_said_as d e = (e.0, to_say_as d e.0 e.1, sym t.said ∙ e.2)

  decodes_as : (d : Decoded) → Decodes opts (heard_of ys) d → Decodes opts (heard_of xs) d
  decodes_as d e = subst (λ (l : List ℕ). Decodes opts l d) (sym t.heard) e

  nothing_as : NothingToWrite opts xs → NothingToWrite opts ys
  nothing_as n = λ d e. all_said_as d (n d (decodes_as d e))

  may_take_as : MayTake opts xs → MayTake opts ys
  may_take_as m = λ d e. (let k = m d (decodes_as d e) in (all_said_as d k.0, k.1))

something_as : (opts : EngineOpts) (xs ys : List LinkAct) → TellsAs xs ys → SomethingToWrite opts xs → SomethingToWrite opts ys
something_as opts xs ys t s = λ d e all. s d (decodes_as opts xs ys t d e) (all_said_as opts ys xs (tells_back xs ys t) d all)

-- a writing part, and a write alone, behind acts that tell the same
pub write_part_as : (opts : EngineOpts) (IsNext : LinkAct → Type 0) (xs ys more : List LinkAct) → TellsAs xs ys → IsWritePart opts IsNext xs more → IsWritePart opts IsNext ys more
write_part_as opts IsNext xs ys more t w =
    let writes = write_acts w.answer w.octets in
    let back = tells_back (xs ++ writes) (ys ++ writes) (tells_on xs ys writes t) in
    record {
      answer = w.answer;
      octets = w.octets;
      takes = w.takes;
      all = w.all;
      fits = w.fits;
      none = λ e. nothing_as opts xs ys t (w.none e);
      some = λ e. something_as opts xs ys t (w.some e);
      over = w.over;
      take = λ stands may. w.take stands (may_take_as opts (ys ++ writes) (xs ++ writes) back may);
      wait = λ never. w.wait (λ may. never (may_take_as opts (xs ++ writes) (ys ++ writes) (tells_on xs ys writes t) may));
    }

pub write_only_as : (b : Basis) (xs ys more : List LinkAct) → TellsAs xs ys → IsWriteOnly b xs more → IsWriteOnly b ys more
write_only_as b xs ys more t w = record {
  answer = w.answer;
  octets = w.octets;
  all = w.all;
  fits = w.fits;
  some = λ e. something_as b.opts xs ys t (w.some e);
  none = λ e some. w.none e (something_as b.opts ys xs (tells_back xs ys t) some);
}

-- ---- what is kept means of the acts

module _ (opts : EngineOpts) (acts : List LinkAct) (k : Kept) (r : IsKeptOf opts acts k) where
  pub output_of : HasOutput k → SomethingToWrite opts acts
  output_of some = something_as opts r.all acts (tells_as opts acts k r) (some opts r.all r.run)

  pub nothing_of : HasNone k → NothingToWrite opts acts
  nothing_of none = nothing_as opts r.all acts (tells_as opts acts k r) (none opts r.all r.run).0

  pub none_of : HasNone k → SomethingToWrite opts acts → ⊥
  none_of none some = (none opts r.all r.run).1 (something_as opts acts r.all (tells_back r.all acts (tells_as opts acts k r)) some)

  pub heard_as : (d : Decoded) → Decodes opts (heard_of acts) d → Decodes opts (heard_of r.all) d
  heard_as d e = decodes_as opts r.all acts (tells_as opts acts k r) d e

  pub refused_of : (cause : Cause) → IsRefusedNow cause k → (x : Refusal) × (cause ≡ x.cause) × ((d : Decoded) × Decodes opts (heard_of acts) d × (d.outcome ≡ Refused x))
  refused_of cause f =
      let x = f opts r.all r.run in
      (x.0, x.1, (x.2.0, subst (λ (l : List ℕ). Decodes opts l x.2.0) (tells_as opts acts k r).heard x.2.1, x.2.2))

  pub unrefused_of : IsUnrefused k → (d : Decoded) → Decodes opts (heard_of acts) d → (x : Refusal) → d.outcome ≡ Refused x → ⊥
  unrefused_of f d e x o = f opts r.all r.run d (heard_as d e) x o

  pub shaken_of : (peer : Peer) → IsShaken peer k → (d : Decoded) → Decodes opts (heard_of acts) d → d.peer ≡ Some peer
  shaken_of peer f d e = f opts r.all r.run d (heard_as d e)

  pub unshaken_of : IsUnshaken k → (peer : Peer) → ((d : Decoded) → Decodes opts (heard_of acts) d → d.peer ≡ Some peer) → ⊥
  unshaken_of f peer all = f opts r.all r.run peer (λ d e. all d (subst (λ (l : List ℕ). Decodes opts l d) (tells_as opts acts k r).heard e))

-- ---- the run of the link

put_none : (acts : List LinkAct) → put_of (without_puts acts) ≡ []
put_none [] = refl
put_none (Wire act ∷ acts) = put_none acts
put_none (Step (Commit pipe m) ∷ acts) = put_none acts
put_none (Step (FullLook pipe) ∷ acts) = put_none acts
put_none (Step (RoomLook pipe) ∷ acts) = put_none acts
put_none (Step (Take pipe m) ∷ acts) = put_none acts
put_none (Step (EmptyLook pipe) ∷ acts) = put_none acts
put_none (Step (DelimiterLook pipe) ∷ acts) = put_none acts
put_none (Step (WaitingLook pipe) ∷ acts) = put_none acts
put_none (Step (Seal pipe) ∷ acts) = put_none acts

-- what is kept at rest is of a run of the link
pub means_link_run : (opts : EngineOpts) (acts : List LinkAct) (k : Kept) → IsKeptOf opts acts k → IsAtRest k → (d : Decoded) × IsLinkRun opts acts d
means_link_run opts acts k r rest =
    let m = some_meaning opts r.all k rest.fed rest.current r.run in
    let d = m.0 in
    let t = tells_as opts acts k r in
    let none : opts.kind ≡ Push → put_of acts ≡ [] = λ e. ap (λ (l : List LinkAct). put_of l) (sym (r.drops e)) ∙ put_none r.all in (
      d,
      record {
        decodes = subst (λ (l : List ℕ). Decodes opts l d) t.heard m.1;
        said = (
          r.run.put,
          to_say_as opts r.all acts t d r.run.put (put_to_say opts r.all k rest.fed rest.current r.run d m.1),
          subst (λ (l : List ℕ). IsPrefix l (octets_to_say opts.role r.run.put)) t.said (unwritten k.engine, said_left opts r.all k rest.fed r.run d m.1),
        );
        put = elim (push_or_not opts.kind) as (λ _. IsPrefix (put_of acts) d.messages) [
          | inl e ↦ (d.messages, ap (λ (l : List Frames). l ++ d.messages) (none e))
          | inr n ↦ subst (λ (l : List LinkAct). IsPrefix (put_of l) d.messages) (r.puts n) (whole k, sym (messages_left opts r.all k rest.fed rest.current r.run d m.1))
        ];
        drops = none;
      },
    )
