-- A new symbol, as model's `push` has it. In order: where it is placed; its words; its free list; what the words hold
-- then; what the state stands for; what holds of it; the whole; the counts after it.
-- Assumes nothing.
use Prim.Native.Nat.{ℕ, suc, ◌+◌, ◌<◌, ◌≤◌}
use mathlib.Core.Path.{◌≡◌, refl, sym, ap, subst, ◌∙◌}
use mathlib.Core.Bool.{false}
use mathlib.Core.List.{List, [], ◌∷◌, ◌++◌}
use native.Mathlib.Omega.{arith}
use native.Mathlib.Numerals.{add-one}
use borrow.Author.Count.{below_more}
use lib.ListN.{get_or-append}
use lib.Seq.{get_or_at}
use Rattle.regions.specs.Regions.{SYMBOLS, SLOTS, FREE_ENDS, FREE_LISTS, PENDING, end}
use Rattle.model.specs.Forest.{record_count}
use Rattle.model.specs.Intern.{Sym, Scope, no_sym, sym_at, scope_at, placement, push}
use Rattle.model.specs.Intern as intern
use Rattle.model.specs.Gate.{Graph}
use Rattle.model.specs.Schedule.{free_vars}
use Rattle.laws.specs.Frame.{Frame}
use Rattle.laws.specs.Slots.{slots_in}
use Rattle.laws.proofs.Frame.{frame_then, frame_wider}
use Rattle.laws.proofs.Later.{later_same}
use Rattle.laws.proofs.Slots.{slots_more}
use Rattle.laws.proofs.Header.{header_of}
use Rattle.record.specs.Record.{Laid}
use Rattle.key.specs.declared.Node.{Node}
use Rattle.key.specs.declared.Symbol.{Symbol}
use Rattle.key.specs.Key.{symbol_at}
use Rattle.symbols.specs.Words.{slots_from, pending_from}
use Rattle.symbols.specs.Symbols.{syms_of, sym_of, rec_of, model_node, made, RoomFor, AllSound}
use Rattle.symbols.specs.Sourced.{Sourced}
use Rattle.symbols.proofs.Laws.{syms_length, made-length, made_before, made_between, made_after, made_symbol, syms_made}
use Rattle.symbols.proofs.Laws.{made_kids, sound_made, sounds_more, syms_agree, kids_agree}
use Rattle.symbols.proofs.Words.{words_length}
use Rattle.tables.specs.declared.Tables.{Tables}
use Rattle.tables.specs.Tables.{hint, hint_of, Open}
use Rattle.scopes.specs.Scopes.{scopes_of, Placed}
use Rattle.scopes.proofs.Laws.{outward-below}
use Rattle.scopes.proofs.Open.{scopes_agree}
use Rattle.scopes.proofs.Climb as climb
use Rattle.memo.specs.Memo.{memo_of}
use Rattle.memo.proofs.Below.{memo_more}
use Rattle.graph.specs.Graph.{Arena, graph_of}
use Rattle.graph.proofs.Laws.{Still, still_above, scope_of, kids_low, node_agree, arena_agree, graph_agree}
use Rattle.free_lists.specs.FreeLists.{Lists, with_list}
use Rattle.free_lists.proofs.Laws.{lists_agree, lists_graph, lists_with, lists_kept, with_frame}
use Rattle.interner.specs.declared.State.{State}
use Rattle.interner.specs.Levels.{stored_deps, Levelled, ArgLevels}
use Rattle.interner.specs.State.{abs_of, Rep}
use Rattle.interner.specs.Step.{Fresh, Stored, Levels, Pushed, new_deps, with_symbol}
use Rattle.interner.proofs.Tracks.{climb_low}
use Rattle.interner.proofs.Same.{used_sound, Same, symbol_same, rep_same, abs_same}

pub records_few : (bs : List ℕ) → Laid bs → record_count bs ≤ 256
records_few bs laid = (header_of bs laid.header).records_most

-- the symbol
abbrev pub new_symbol : State → Node → ℕ → ℕ → ℕ → Symbol
new_symbol st node count levels scope =
    record { node = node; kids = st.slots; count = count; scope = scope; levels = levels }

module _ {bs ws : List ℕ} {st : State} {cur : ℕ} {node : Node} {held count levels : ℕ} (scope : ℕ) (rep : Rep bs ws st)
    (fresh : Fresh bs ws st cur node held count)
    (lv : Levels ws st cur (new_deps bs ws st node held count) levels)
    (place : Placed ws cur levels scope) where
  -- ---- where it is placed

  abbrev deps : List ℕ
  deps = new_deps bs ws st node held count

  pub scope_is : (t : Tables) → scope ≡ placement (abs_of bs ws t st) cur deps
  scope_is t =
      climb.placed ws st.scopes cur levels scope deps (abs_of bs ws t st) refl fresh.current lv.tracks place

  pub scope_low : scope < st.scopes
  scope_low =
      rw (place st.scopes deps fresh.current lv.tracks)
      (climb_low (scopes_of ws st.scopes) deps _ st.scopes rep.arena.scoped.some_scope
      (outward-below ws st.scopes rep.arena.scoped.nested cur fresh.current))

  -- ---- its words

  module _ (records : record_count bs ≤ 256) (few : st.symbols < 512) where
    abbrev y : Symbol
    y = new_symbol st node count levels scope

    abbrev ws₁ : List ℕ
    ws₁ = made ws st.symbols held y

    pub room : RoomFor ws st.symbols held y
    room = record {
      few = few;
      slots = fresh.slots;
      pending = fresh.pending;
      words = omega (arith, rep.words);
      fits = record {
        from = omega (arith, fresh.from);
        field = fresh.field;
        first = fresh.first;
        second = fresh.second;
        kids = omega (arith, rep.slots.few);
        count = omega (arith, fresh.pending);
        scope = omega (arith, scope_low, rep.arena.scoped.few_scopes);
      };
    }

    made_frame : Frame SYMBOLS.first (end SLOTS) ws ws₁
    made_frame = record {
      long = made-length ws st.symbols held y;
      before = λ k l. absurd (omega arith);
      after = λ k l. made_after ws st.symbols held y few k (omega (arith, fresh.slots));
    }

    made_still : Still ws ws₁ st.slots st.symbols st.scopes
    made_still = record {
      long = made_frame.long;
      own = made_before ws st.symbols held y few;
      slots = λ k l r. made_between ws st.symbols held y k (omega arith) (omega arith);
      scopes = λ k l r. made_frame.after k l;
    }

    abbrev new_sym : Sym
    new_sym = sym_of bs (syms_of bs ws st.symbols) st.symbols y (pending_from ws held count)

    syms_after : syms_of bs ws₁ (suc st.symbols) ≡ syms_of bs ws st.symbols ++ (new_sym ∷ [])
    syms_after = syms_made ws st.symbols held y room bs st.slots (omega arith) (used_sound bs ws st rep)

    sound_made_all : AllSound bs ws₁ (st.slots + count) (st.symbols + 1)
    sound_made_all =
        sound_made ws st.symbols held y room bs st.slots (omega arith) (used_sound bs ws st rep) fresh.from
        fresh.lower

    made_arena : Arena bs ws₁ (st.symbols + 1) st.scopes
    made_arena =
        let h = (arena_agree made_still bs rep.slots.within rep.arena).scoped in
        record {
          scoped = record {
            few = omega arith;
            long = h.long;
            some_scope = h.some_scope;
            few_scopes = h.few_scopes;
            nested = h.nested;
            placed = below_more (λ s. (symbol_at ws₁ s).scope < st.scopes) st.symbols h.placed
                (rw (made_symbol ws st.symbols held y room) scope_low);
          };
          sound = sounds_more fresh.slots sound_made_all;
        }

    -- ---- its free list: a symbol more changes no other

    abbrev g₁ : Graph
    g₁ = graph_of bs ws₁ (st.symbols + 1) st.scopes []

    lists_before : Lists g₁ ws₁ st.symbols
    lists_before =
        lists_agree g₁ ws ws₁ st.symbols rep.arena.scoped.few (λ k l r. made_frame.after k (omega arith))
        (lists_graph (graph_of bs ws st.symbols st.scopes []) g₁ ws st.symbols
        (later_same (graph_of bs ws st.symbols st.scopes []) g₁ st.symbols st.scopes
        (λ s lt. sym (ap (λ (l : List Sym). sym_at l s) (ap (syms_of bs ws₁) (add-one st.symbols) ∙ syms_after)
        ∙ get_or-append (syms_of bs ws st.symbols) (new_sym ∷ []) no_sym s
        (omega (arith, syms_length bs ws st.symbols))))
        (λ b lt. ap (λ (l : List Scope). scope_at l b) (sym (scopes_agree ws ws₁ st.scopes made_still.scopes)))
        (λ s lt. rw (scope_of bs ws st.symbols st.scopes [] s lt) (rep.arena.scoped.placed s lt))
        (kids_low bs ws₁ (st.symbols + 1) st.scopes made_arena []))
        rep.lists)

    pub keep_asks : Arena bs ws₁ (st.symbols + 1) st.scopes × Lists g₁ ws₁ st.symbols
        × (scope ≡ (symbol_at ws₁ st.symbols).scope) × (count ≡ (symbol_at ws₁ st.symbols).count)
    keep_asks =
        let e = sym (made_symbol ws st.symbols held y room) in
        (made_arena, lists_before, ap (λ (z : Symbol). z.scope) e, ap (λ (z : Symbol). z.count) e)

    -- ---- what the words hold then

    module _ (ws₂ : List ℕ) (listed : ws₂ ≡ with_list ws₁ st.symbols (free_vars g₁ st.symbols)) where
      list_frame : Frame (FREE_ENDS).first (end FREE_LISTS) ws₁ ws₂
      list_frame = rw listed (with_frame ws₁ st.symbols (free_vars g₁ st.symbols) few)

      list_still : Still ws₁ ws₂ (st.slots + count) (st.symbols + 1) st.scopes
      list_still = still_above list_frame (omega arith) fresh.slots made_arena.scoped

      frame : Frame SYMBOLS.first PENDING.first ws ws₂
      frame =
          frame_then SYMBOLS.first PENDING.first ws ws₁ ws₂
          (frame_wider SYMBOLS.first (end SLOTS) SYMBOLS.first PENDING.first ws ws₁ made_frame (omega arith)
          (omega arith))
          (frame_wider (FREE_ENDS).first (end FREE_LISTS) SYMBOLS.first PENDING.first ws₁ ws₂ list_frame
          (omega arith) (omega arith))

      same : Same ws ws₂ st
      same = record {
        still = record {
          long = frame.long;
          own = λ k l r. list_still.own k l (omega arith) ∙ made_still.own k l r;
          slots = λ k l r. list_still.slots k l (omega arith) ∙ made_still.slots k l r;
          scopes = λ k l r. list_still.scopes k l r ∙ made_still.scopes k l r;
        };
        lists = λ g h.
            rw listed (lists_kept g ws₁ st.symbols (free_vars g₁ st.symbols) few made_arena.scoped.long
            (lists_agree g ws ws₁ st.symbols rep.arena.scoped.few (λ k l r. made_frame.after k (omega arith)) h));
        entries = λ k l r. list_frame.after k (omega arith) ∙ made_frame.after k (omega arith);
        memo = λ k l r. list_frame.after k (omega arith) ∙ made_frame.after k (omega arith);
      }

      symbol_new : symbol_at ws₂ st.symbols ≡ y
      symbol_new = node_agree list_still st.symbols (omega arith) ∙ made_symbol ws st.symbols held y room

      syms_new : syms_of bs ws₂ (suc st.symbols) ≡ syms_of bs ws st.symbols ++ (new_sym ∷ [])
      syms_new =
          syms_agree bs ws₁ ws₂ (st.slots + count) list_still.slots (suc st.symbols)
          (λ k l r. list_still.own k l (omega arith)) (λ i lt. sound_made_all i (omega arith))
          ∙ syms_after

      -- ---- what the state stands for

      abbrev st₁ : State
      st₁ = with_symbol st count

      abs_pushed : (t : Tables) → Open t st.entries → abs_of bs ws₂ t st₁
          ≡ push cur (rec_of bs node) (pending_from ws held count) deps false (model_node bs node) (abs_of bs ws t st)
      unfolding push sym_of
      abs_pushed t opened =
          let kept = abs_same bs ws ws₂ st rep same t opened in
          rw (
            add-one st.symbols,
            syms_new,
            ap (λ (z : intern.State). z.tables) kept,
            ap (λ (z : intern.State). z.scopes) kept,
            ap (λ (z : intern.State). z.memo) kept,
            ← scope_is t,
          )

      -- ---- what holds of it

      old : Rep bs ws₂ st
      old = rep_same bs ws ws₂ st rep same

      stored : Stored ws ws₂ st.symbols levels
      stored = record {
        others = λ i lt. symbol_same bs ws ws₂ st rep same i lt;
        own = ap (λ (z : Symbol). z.levels) symbol_new;
      }

      hinted_new : hint_of bs ws₂ st.symbols ≡ hint (rec_of bs node).opcode (pending_from ws held count)
      hinted_new =
          rw (
            ap (λ (z : Symbol). slots_from ws₂ z.kids z.count) (node_agree list_still st.symbols (omega arith))
                ∙ kids_agree bs ws₁ ws₂ (st.slots + count) list_still.slots st.symbols
                (sound_made_all st.symbols (omega arith))
                ∙ made_kids ws st.symbols held y room,
            symbol_new,
          )

      deps_new : stored_deps bs ws₂ st.symbols ≡ deps
      unfolding sym_of
      deps_new =
          ap (λ (l : List Sym). (sym_at l st.symbols).deps) syms_new
          ∙ ap (λ (z : Sym). z.deps)
          (get_or_at (syms_of bs ws st.symbols) new_sym [] no_sym st.symbols (syms_length bs ws st.symbols))

      levelled_new : Levelled bs ws₂ st.symbols
      levelled_new = record {
        low = rw deps_new lv.low;
        is = λ j. rw (deps_new, stored.own) (lv.are ws₂ stored j);
      }

      slots_pushed : slots_in (syms_of bs ws₂ (st.symbols + 1)) ≡ st.slots + count
      unfolding sym_of
      slots_pushed =
          rw (add-one st.symbols, syms_new)
          (slots_more (syms_of bs ws st.symbols) new_sym
          ∙ omega (arith, rep.slots.all, words_length ws (PENDING.first + held) count))

      args_pushed : ArgLevels ws₂ (st.symbols + 1) st.scopes
      args_pushed c lt xs e x i =
          let h = old.levels.arguments c lt xs e x i in record { low = omega (arith, h.low); one = h.one }

      lists_pushed : Lists (graph_of bs ws₂ (st.symbols + 1) st.scopes []) ws₂ (st.symbols + 1)
      lists_pushed =
          rw (graph_agree list_still bs sound_made_all [])
          (subst (Lists g₁ ws₂) (sym (add-one st.symbols))
          (rw listed (lists_with g₁ ws₁ st.symbols few made_arena.scoped.long lists_before)))

      rep_pushed : Rep bs ws₂ st₁
      rep_pushed = record {
        words = omega (arith, list_still.long, made_still.long, rep.words);
        arena = arena_agree list_still bs (λ i lt. (sound_made_all i lt).slots) made_arena;
        slots = record {
          few = fresh.slots;
          all = slots_pushed;
          within = λ i lt. rw (node_agree list_still i lt) (sound_made_all i lt).slots;
        };
        sourced = below_more (λ s. Sourced bs (symbol_at ws₂ s).node (symbol_at ws₂ s).count) st.symbols old.sourced
            (rw symbol_new fresh.sourced);
        levels = record {
          each = below_more (Levelled bs ws₂) st.symbols old.levels.each levelled_new;
          arguments = args_pushed;
        };
        lists = lists_pushed;
        entries = record {
          few = omega (arith, rep.entries.few);
          below = λ k lt. let h = old.entries.below k lt in omega (arith, h);
          hinted = old.entries.hinted;
        };
        memo = record {
          few = omega (arith, rep.memo.few);
          below = memo_more st.symbols (st.symbols + 1) (memo_of ws₂ st.memo) (omega arith) old.memo.below;
          once = old.memo.once;
        };
        few_readings = rep.few_readings;
      }

      -- ---- the whole

      pub pushed_by : Pushed bs ws st cur node held count levels ws₂ st₁
      pushed_by = record {
        state = refl;
        rep = rep_pushed;
        leaves = record {
          frame = frame;
          scope_words = λ k l r. list_frame.before k (omega arith) ∙ made_frame.after k l;
          scopes = refl;
          entries = omega arith;
          readings = refl;
          more = omega arith;
        };
        stored = stored;
        hinted = hinted_new;
        is = abs_pushed;
      }

module _ {bs ws : List ℕ} {st : State} {cur : ℕ} {node : Node} {held count levels : ℕ} {ws' : List ℕ} {r : State}
    (done : Pushed bs ws st cur node held count levels ws' r) where
  pub pushed_entries : r.entries ≡ st.entries
  pushed_entries = ap (λ (z : State). z.entries) done.state

  pub pushed_symbols : r.symbols ≡ st.symbols + 1
  pushed_symbols = ap (λ (z : State). z.symbols) done.state
