pub mod ConceptLaws
