-- Posts taken with their reader meet the laws of posts, and so the mixing promise holds for posts of both readers. Assumes nothing.
use mathlib.Core.Path.{◌≡◌, refl, sym, ap, ◌∙◌}
use mathlib.Core.Bool.{Bool, true, false, cond, ◌||◌, not}
use mathlib.Core.List.{List, [], ◌∷◌}
use Prim.Native.Nat.{ℕ, ◌*◌, ◌<◌}
use lib.Dec.{eqb}
use Rattle.std.specs.Prelude.{is_none}
use Rattle.fields.specs.Fields.{nth_field}
use Rattle.terminal.specs.State.{World, barred}
use Rattle.terminal.specs.Refusals.{◌when◌, first_refusal}
use Rattle.terminal.proofs.Good.{in-sound}
use Rattle.post.specs.Posts.{Posted, is_too_long, misfits, posted_to}
use Rattle.readers.specs.Owners.{is_table, owns, post_as_refusal, posted_as}
use Rattle.readers.proofs.Kept.{as-left, as_by}
use Rattle.mixing.specs.Event.{Event, key as pressing, post as posting}
use Rattle.mixing.proofs.Cellwise.{Steps, PostLaw, CellLaws}
use Rattle.promises.specs.Mixing.{Key, Answer, NotEnter, handled}
use Rattle.promises.specs.Owners.{Sender, nobody, reader, Message, posted_from, handled_under, answered_under, ReaderMixesAgree}
use Rattle.promises.proofs.Machine.{Known, known, Frame, Alive, sound, key_reads, key_reach, M, Owned}
use Rattle.promises.proofs.Posts.{post-law}
use Rattle.promises.proofs.Mixing.{key-law, mixed-agree}
use Rattle.promises.proofs.Rows.{Notes, none-notes, key-notes, post-notes}

module _ (rows : ℕ) (owners : List ℕ) where
  -- the law of a step does not turn on who posts
  pub as-owned : (At : World → Type 0) (f : World → World) (Reads Reach : Known → ℕ → Type 0) → Steps (M rows) At f Reads Reach → Steps (Owned rows owners) At f Reads Reach
  as-owned At f Reads Reach c =
      record {
        states = c.states;
        live = c.live;
        framed = c.framed;
        writes = record { own = c.writes.own; stays = c.writes.stays };
      }

-- ---- posts taken with their reader
module _ (rows : ℕ) (owners : List ℕ) (field : ℕ) (text : List ℕ) where
  -- one that names no reader
  pub plain-law : PostLaw (Owned rows owners) field (record { by = nobody; text = text })
  plain-law =
      let c = post-law rows field text in
      record { still = c.still; answer = c.answer; own = c.own; stays = c.stays }

  module _ (r : ℕ) where
    abbrev frame : World → Frame
    frame x = (M rows).frame (known rows x)

    -- the number of a reader's post goes by the frame
    abbrev number : Frame → ℕ
    number w =
        let found = nth_field w.marks field in
        first_refusal
        ((1 when not (is_table owners))
        ∷ (4 when (w.lock || not (eqb w.pending 0)))
        ∷ (8 when not w.format)
        ∷ (9 when is_none found)
        ∷ (13 when not (owns owners r field))
        ∷ (10 when is_too_long w.marks text found)
        ∷ (6 when misfits w.marks text found)
        ∷ [])

    abbrev left_at : World → Bool → World
    left_at x b = cond b (posted_to rows x field text).world x

    by-is : (x : World) → Alive rows (known rows x)
        → posted_as rows x owners r field text ≡ record { number = number (frame x); world = left_at x (eqb (number (frame x)) 0) }
    unfolding post_as_refusal first_refusal barred
    by-is x a = let s = in-sound (sound {x = x} a) in as-left rows x owners r field text ∙ rw (s.0, s.1)

    left_is : (x : World) → Alive rows (known rows x) → (posted_as rows x owners r field text).world ≡ left_at x (eqb (number (frame x)) 0)
    left_is x a = ap (λ (p : Posted). p.world) (by-is x a)

    pub by-law : PostLaw (Owned rows owners) field (record { by = reader r; text = text })
    by-law =
        record {
          still = λ x a. ap (known rows) (left_is x a) ∙ still x a (eqb (number (frame x)) 0);
          answer = λ x y a b e.
              ap answer-of (by-is x a) ∙ ap (λ (w : Frame). record { number = number w; written = 0; reply = [] }) e ∙ sym (ap answer-of (by-is y b));
          own = λ x y i l a b e o n h.
              ap ((M rows).cell i) (left_is x a)
              ∙ own x y i l a b e o n h (eqb (number (frame x)) 0)
              ∙ ap (λ (w : Frame). (M rows).cell i (left_at y (eqb (number w) 0))) e
              ∙ sym (ap ((M rows).cell i) (left_is y b));
          stays = λ x i l a h. ap ((M rows).cell i) (left_is x a) ∙ stays x i l a h (eqb (number (frame x)) 0);
        }
      where
        answer-of : Posted → Answer
        answer-of p = record { number = p.number; written = 0; reply = [] }

        still : (x : World) → Alive rows (known rows x) → (b : Bool) → known rows (left_at x b) ≡ known rows x
        still x a true = (post-law rows field text).still x a
        still x a false = refl

        own : (x y : World) (i : ℕ) → i < rows * 80 → Alive rows (known rows x) → Alive rows (known rows y) → frame x ≡ frame y → (M rows).unprotected (frame x) i ≡ true
            → (M rows).number (frame x) i ≡ field → (M rows).cell i x ≡ (M rows).cell i y → (c : Bool) → (M rows).cell i (left_at x c) ≡ (M rows).cell i (left_at y c)
        own x y i l a b e o n h true = (post-law rows field text).own x y i l a b e o n h
        own x y i l a b e o n h false = h

        stays : (x : World) (i : ℕ) → i < rows * 80 → Alive rows (known rows x)
            → ((M rows).unprotected (frame x) i ≡ true → ¬ ((M rows).number (frame x) i ≡ field)) → (c : Bool) → (M rows).cell i (left_at x c) ≡ (M rows).cell i x
        stays x i l a h true = (post-law rows field text).stays x i l a h
        stays x i l a h false = refl

owned_at : (rows : ℕ) (owners : List ℕ) (field : ℕ) (text : List ℕ) (p : Sender) → PostLaw (Owned rows owners) field (record { by = p; text = text })
owned_at rows owners field text nobody = plain-law rows owners field text
owned_at rows owners field text (reader r) = by-law rows owners field text r

owned-law : (rows : ℕ) (owners : List ℕ) (field : ℕ) (s : Message) → PostLaw (Owned rows owners) field s
owned-law rows owners field s = owned_at rows owners field s.text s.by

-- ---- the mixing promise for posts of both readers
owned-laws : (rows : ℕ) (owners : List ℕ) → CellLaws (Owned rows owners) NotEnter
owned-laws rows owners =
    record {
      keys = λ k o.
          let c = key-law rows k.code k.reply o in
          record {
            steps = as-owned rows owners (λ x. Alive rows (known rows x)) (handled rows (pressing k)) (key_reads k.code) (key_reach k.code) c.steps;
            answer = c.answer;
            reads = c.reads;
          };
      posts = owned-law rows owners;
    }

owned-notes : (rows : ℕ) (owners : List ℕ) (e : Event Key Message) (x : World) → Notes rows x (handled_under rows owners e x)
owned-notes rows owners (pressing k) x = key-notes rows x k.reply k.code
owned-notes rows owners (posting field s) x = go s.by
  where
    go : (p : Sender) → Notes rows x (posted_from rows owners x field p s.text).world
    go nobody = post-notes rows x field s.text
    go (reader r) = as_by rows x owners r field s.text (Notes rows x) (post-notes rows x field s.text) (none-notes rows x)

pub reader_mixes_agree : (rows : ℕ) → ReaderMixesAgree rows
reader_mixes_agree rows owners = mixed-agree (handled_under rows owners) (answered_under rows owners) rows (owned-laws rows owners) (owned-notes rows owners)
