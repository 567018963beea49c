use mathlib.Core.Path.{◌≡◌}
use native.Mathlib.Omega.{arith}
use Rattle.writer.proofs.Sections.{section_variables, section_operators, section_terms}
use Rattle.writer.proofs.section.Goals as goal
use Rattle.writer.proofs.section.Goals.{in-0, in-1, in_default}

pub returns : goal.returns
returns c =
    elim c.match-k.branch [
      | in-0 w ↦
          rw (c.part.ensures, w.section-is, w.variable_section-section.ensures.at, w.variable_section-section.ensures.bytes, w.in-0.is) (section_variables _ c.requires.0)
      | in-1 w ↦
          rw (c.part.ensures, w.section-is, w.operator_section-section.ensures.at, w.operator_section-section.ensures.bytes, w.in-1.is) (section_operators _ c.requires.0)
      | in_default w ↦
          let last : c.args.k ≡ 2 = omega arith in
          rw (c.part.ensures, w.section-is, w.term_section-section.ensures.at, w.term_section-section.ensures.bytes, last) (section_terms _ c.requires.0)
    ]
