-- The numbers of a size of bank are its layout's.
use Rattle.std.specs.Prelude.{ℕ, ◌≡◌, refl}
use Rattle.bank.specs.Layout.{Layout, start, bank_widths, record_widths, record_size, size}

pub record Laid (L : Layout) (c m w ls gs g rs r u f : ℕ) : Type 0 where
  pub controllers : c ≡ L.controllers
  pub messages : m ≡ L.messages
  pub words : w ≡ size L
  pub lengths : ls ≡ start 5 (bank_widths L)
  pub logs : gs ≡ start 6 (bank_widths L)
  pub log : g ≡ L.messages
  pub records : rs ≡ start 7 (bank_widths L)
  pub record_words : r ≡ record_size L
  pub unsent : u ≡ start 6 (record_widths L)
  pub in_flight : f ≡ start 7 (record_widths L)

-- the layout's own numbers are laid out as it says
abbrev pub laid_out : (L : Layout)
    → Laid L L.controllers L.messages (size L) (start 5 (bank_widths L)) (start 6 (bank_widths L)) L.messages
    (start 7 (bank_widths L)) (record_size L) (start 6 (record_widths L)) (start 7 (record_widths L))
laid_out L =
    record {
      controllers = refl;
      messages = refl;
      words = refl;
      lengths = refl;
      logs = refl;
      log = refl;
      records = refl;
      record_words = refl;
      unsent = refl;
      in_flight = refl;
    }
